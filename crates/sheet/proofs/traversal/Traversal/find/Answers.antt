use Rattle.std.proofs.Common.{refl}
use Rattle.sheet.specs.Drafts.{sheet_of}
use Rattle.sheet.specs.Graph.{first_of, size_of}
use Rattle.sheet.specs.Tried.{items_of}
use Rattle.sheet.proofs.Finding.{found_of}
use Rattle.sheet.proofs.Laid.{laid_table}
use Rattle.sheet.proofs.ReadSheet.{parts_well_formed}
use Rattle.sheet.proofs.SameGraph.{graph_formed, graph_table}
use Rattle.sheet.proofs.traversal.Traversal.find.Goals as goal

pub invariant_of-g : goal.invariant_of-g
invariant_of-g c =
    let I = items_of c.args.draft.now in
    let S = sheet_of I in record {
      ready = record {
        formed = rw (c.as_slice-blocks.ensures.items, c.as_slice.ensures.items, c.as_slice-edges.ensures.items) (graph_formed S (parts_well_formed S c.requires.0));
        table = rw (c.as_slice-blocks.ensures.items, c.as_slice.ensures.items, c.as_slice-edges.ensures.items) (graph_table S (first_of I.blocks) (size_of I.blocks) (laid_table S I.blocks c.requires.1 refl));
        few_blocks = c.as_slice-blocks.ensures.fits;
        few_lblocks = c.as_slice.ensures.fits;
        few_edges = c.as_slice-edges.ensures.fits;
        linked = rw (c.as_slice-2.ensures.items, c.as_slice-3.ensures.items) c.link.ensures;
      };
    }

pub returns : goal.returns
returns c = found_of (sheet_of (items_of c.args.draft.now)) _ _ (rw (c.as_slice-blocks.ensures.items, c.as_slice.ensures.items, c.as_slice-edges.ensures.items) at c.list_all.ensures)
