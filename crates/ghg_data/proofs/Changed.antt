-- Which keys are changed, once a change is put or the next row is gone through.
use Rattle.std.proofs.Common.{◌≡◌, ◌⊎◌, inl, inr, ℕ, zero, suc, ◌+◌, ◌≤◌, ◌<◌, get_or, map, length, arith, Bool, true, false, List, [], ◌∷◌, Option, if◌then◌else◌, sym, ap, ◌∙◌, subst}
use Rattle.indexmap.specs.IndexMap.{insert_entry}
use Rattle.ghg_units.specs.declared.row.Row.{Row}
use Rattle.ghg_definitions.specs.declared.record.Record.{Record}
use Rattle.ghg_definitions.specs.declared.record.RecordKey.{RecordKey}
use Rattle.ghg_definitions.specs.Listed.{IsListed}
use Rattle.ghg_definitions.specs.Rows.{key_of}
use Rattle.ghg_definitions.proofs.Keys.{key_eq}
use Rattle.ghg_data.specs.Changes.{Change, ChangesAlso, IsChanged}

module _ (k : RecordKey) (c : Option Record) where
  few_put : (cs : List Change) → length (insert_entry key_eq cs k c) ≤ length cs + 1
  few_put [] = omega arith
  few_put (d ∷ cs) = by (key_eq k d.0) (few_put cs)
    where
      by : (b : Bool) → length (insert_entry key_eq cs k c) ≤ length cs + 1 → length (if b then (d.0, c) ∷ cs else d ∷ insert_entry key_eq cs k c) ≤ suc (length cs) + 1
      by true few = omega arith
      by false few = omega arith

  key_put : (cs : List Change) (q : RecordKey) → IsChanged q (insert_entry key_eq cs k c) → (q ≡ k) ⊎ IsChanged q cs
  key_put [] q (inl e) = inl e
  key_put [] q (inr i) = absurd i
  key_put (d ∷ cs) q i = by (key_eq k d.0) i (key_put cs q)
    where
      by : (b : Bool) → IsChanged q (if b then (d.0, c) ∷ cs else d ∷ insert_entry key_eq cs k c) → (IsChanged q (insert_entry key_eq cs k c) → (q ≡ k) ⊎ IsChanged q cs) → (q ≡ k) ⊎ IsChanged q (d ∷ cs)
      by true (inl e) rest = inr (inl e)
      by true (inr i) rest = inr (inr i)
      by false (inl e) rest = inr (inl e)
      by false (inr i) rest = elim (rest i) [ inl e ↦ inl e | inr j ↦ inr (inr j) ]

  pub also_put : (before old new : List Change) → old ≡ before → new ≡ insert_entry key_eq old k c → ChangesAlso k before new
  also_put before old new same is = record {
    few = let many = few_put before in let e : new ≡ insert_entry key_eq before k c = is ∙ ap (λ cs. insert_entry key_eq cs k c) same in subst (λ cs. length cs ≤ length before + 1) (sym e) many;
    keys = λ q i. let e : new ≡ insert_entry key_eq before k c = is ∙ ap (λ cs. insert_entry key_eq cs k c) same in key_put before q (subst (IsChanged q) e i);
  }

-- the key of a row is one of the rows' keys
pub row_listed : (rows : List Row) (i : ℕ) (row : Row) → i < length rows → row ≡ get_or rows i row → IsListed (key_of row.form) (map (λ (r : Row). key_of r.form) rows)
row_listed [] i row l e = absurd (omega arith)
row_listed (x ∷ rows) zero row l e = inl (ap (λ (r : Row). key_of r.form) e)
row_listed (x ∷ rows) (suc i) row l e = inr (row_listed rows i row (omega arith) e)
