use Rattle.std.proofs.Common.{◌++◌, take, length-append, length-take, inr, refl, arith}
use Rattle.std.proofs.lemmas.Result.{err_from_is_err_and}
use Rattle.ghg_outer.proofs.Tapes.{consumes_more}
use Rattle.ghg_run.proofs.splicing.read_series.Goals as goal

pub returns-in_err-extend_from_slice-in-Ok-clause-read : goal.returns-in_err-extend_from_slice-in-Ok-clause-read
returns-in_err-extend_from_slice-in-Ok-clause-read g c =
    let p = err_from_is_err_and c.from_residual.result c.from_residual.ensures.1 in
    let bound = c.in-Ok.ensures.bound in
    rw (p.1, p.2) (record {
      text = c.blocks-2.series.items ++ take c.in-Ok.given c.read.new.buf;
      read = consumes_more _ _ _ _ _ c.blocks-2.invariant.read c.in-Ok.ensures.read;
      few = grind (arith, length-append c.blocks-2.series.items (take c.in-Ok.given c.read.new.buf), bound.0, bound.1, length-take c.min-wanted.result c.blocks-2.block);
      why = inr refl;
    })
