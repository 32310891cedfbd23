use Rattle.std.proofs.Common.{arith}
use Rattle.std.proofs.lemmas.Result.{IfOk-weaker}
use Rattle.ghg_keycat.specs.Entries.{IsKeyed}
use Rattle.ghg_keycat.specs.Ranking.{IsRanking}
use Rattle.ghg_keycat.specs.Sizes.{level_size}
use Rattle.ghg_keycat.proofs.Counted.{ranking, total_of}
use Rattle.ghg_keycat.proofs.Distances.{levels_within}
use Rattle.ghg_keycat.proofs.level.Goals as goal

pub keyed-requires : goal.keyed-requires
keyed-requires c =
    rw (total_of level_size c.args.rows.now c.in_ok-ranked.ranked.items c.in_ok-ranked.ensures)
    (omega (arith, levels_within c.args.rows.now, c.requires.small))

pub returns : goal.returns
returns c =
    IfOk-weaker c.keyed.result (λ v. IsKeyed c.in_ok-ranked.ranked.items v.items) (λ v. IsRanking level_size c.args.rows.now v.items)
    (λ v is. ranking level_size c.args.rows.now c.in_ok-ranked.ranked.items v.items c.requires.distinct c.in_ok-ranked.ensures is)
    c.keyed.ensures
