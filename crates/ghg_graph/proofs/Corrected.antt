-- What changes leave as it was.
use Rattle.std.proofs.Common.{◌≡◌, inl, inr, List, map, sym, subst}
use Rattle.std.specs.FinMap.{get}
use Rattle.std.specs.List.{Contains}
use Rattle.ghg_definitions.specs.declared.record.RecordKey.{RecordKey}
use Rattle.ghg_definitions.specs.Data.{Data}
use Rattle.ghg_definitions.specs.Listed.{IsListed}
use Rattle.ghg_definitions.proofs.Listed.{contained}
use Rattle.ghg_data.specs.Changes.{Change, applied}
use Rattle.ghg_data.proofs.Covered.{changed_or_kept}

-- all other records are kept
pub kept_record : (m : Data) (cs : List Change) (ks : List RecordKey) → ks ≡ map (λ c. c.0) cs
    → (k : RecordKey) → (Contains ks k → ⊥) → get m k ≡ get (applied m cs) k
kept_record m cs ks all k off = elim (changed_or_kept m cs k) [
  | inl i ↦ absurd (off (contained ks k (subst (IsListed k) (sym all) i)))
  | inr e ↦ sym e
]
