use Rattle.std.proofs.Common.{◌≡◌, ◌+◌, ◌∷◌, drop, add-one, subst}
use Rattle.std.specs.List.{AllByRecursion}
use Rattle.ghg_units.specs.WellFormed.{IsWellFormed}
use Rattle.ghg_data.specs.Brackets.{half_lives}
use Rattle.ghg_data.proofs.HalfLives.{named_more}
use Rattle.ghg_data.proofs.InTurn.{drop_row}
use Rattle.ghg_data.proofs.brackets.Brackets.keep.Goals as goal

pub loop-row-preserved : goal.loop-row-preserved
loop-row-preserved c =
    let rows = c.args.rows.now in
    let i = c.loop-row.row-index in
    let row = c.row-item.result in
    let so_far = c.loop-row.invariant in
    let kept = c.in_ok-keep_named.ensures in
    let rest : drop i rows ≡ row ∷ drop (i + 1) rows = rw add-one (drop_row rows i row c.loop-row-test.true c.row-item.is) in
    record {
      well_formed = (subst (AllByRecursion IsWellFormed) rest so_far.well_formed).1;
      named = named_more (half_lives c.args.self.now) (half_lives c.loop-row.self) (half_lives c.keep_named.new.self) rows row (drop (i + 1) rows) (drop i rows) rest kept.named so_far.named;
      kept = λ h was. kept.kept h (so_far.kept h was);
    }
