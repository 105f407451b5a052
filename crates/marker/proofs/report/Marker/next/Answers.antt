use Rattle.std.proofs.Common.{vec_items, arith}
use Rattle.sheet.specs.View.{view}
use Rattle.marker.proofs.Going.{judged_done}
use Rattle.marker.proofs.report.Marker.next.Goals as goal

pub returns-in_ok-certificate-in-Claim-clause-done : goal.returns-in_ok-certificate-in-Claim-clause-done
returns-in_ok-certificate-in-Claim-clause-done c =
    judged_done (view c.args.self.now.room.sheet) c.args.place c.in-Some.word _ c.args.bytes.now (vec_items c.take.new.self.words)
    (vec_items c.args.text.now) (vec_items c.certificate.new.text) c.in-Some.ensures c.in-Claim.ensures c.take.ensures
    (omega (arith, c.len.ensures)) c.in_ok-certificate-in-Claim.ensures
