use Rattle.std.proofs.Common.{sym, arith}
use Rattle.line.proofs.Digits.{one_digit, first, more, longer}
use Rattle.line.proofs.decimal.+put_decimal.Goals as goal

pub bounds-out-0 : goal.bounds-out-0
bounds-out-0 t c = let l = one_digit c.args.n (omega arith) in omega arith

pub put_decimal-count-requires : goal.put_decimal-count-requires
put_decimal-count-requires t c = let l = longer c.args.n (omega arith) (omega arith) in omega arith

pub bounds-out-count : goal.bounds-out-count
bounds-out-count t c = let l = longer c.args.n (omega arith) (omega arith) in omega arith

pub returns-then-n-lt10 : goal.returns-then-n-lt10
returns-then-n-lt10 t c =
    let l = one_digit c.args.n (omega arith) in
    record { count = sym l; bytes = first _ _ _ (omega arith) c.last_digit.ensures (omega arith) }

pub returns : goal.returns
returns t c =
    let e = c.put_decimal-count.ensures.count in
    let l = longer c.args.n (omega arith) (omega arith) in
    record {
      count = omega arith;
      bytes = more c.args.out.now c.put_decimal-count.new.out c.args.n c.last_digit-2.result c.put_decimal-count.result
          (omega arith) (omega arith) c.put_decimal-count.ensures.bytes c.last_digit-2.ensures e (omega arith);
    }
