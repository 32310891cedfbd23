use Rattle.std.proofs.Common.{arith, length-drop}
use Rattle.std.proofs.Math.Seq.{take-add}
use Rattle.std.proofs.lemmas.List.{take_rest}
use Rattle.ghg_outer.proofs.Tapes.{appends_more}
use Rattle.ghg_outer.proofs.writing.write_all.Goals as goal

pub pieces-preserved : goal.pieces-preserved
pieces-preserved g c =
    let written = rw take_rest at c.in-Ok.ensures.wrote in
    record {
      appended = rw (take-add c.pieces.at c.in-Ok.count c.args.piece.now) (appends_more _ _ _ _ _ c.pieces.invariant.appended written);
      stays = grind (arith, c.pieces.invariant.stays, c.in-Ok.ensures.counted.stays);
      within = omega (arith, c.in-Ok.ensures.bound, length-drop c.pieces.at c.args.piece.now);
    }
