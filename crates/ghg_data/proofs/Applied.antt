-- A look-up after changes.
use Rattle.std.proofs.Common.{◌≡◌, Bool, true, false, cond, List, [], ◌∷◌, ◌++◌, Option, Some, None, Result, Ok, Err, OnOk, refl, sym, ap, ap₂, ◌∙◌}
use Rattle.std.specs.Ordering.{eq_by_cmp}
use Rattle.std.specs.Cmp.{eq_by_cmp_equiv}
use Rattle.std.specs.FinMap.{find, get, same_map}
use Rattle.std.specs.Map.{lookup}
use Rattle.ghg_definitions.proofs.Consistent.{get-with_record}
use Rattle.ghg_definitions.specs.declared.record.Record.{Record}
use Rattle.ghg_definitions.specs.declared.record.RecordKey.{RecordKey}
use Rattle.ghg_definitions.specs.Data.{Data, key_cmp}
use Rattle.ghg_definitions.specs.Rows.{with_record}
use Rattle.ghg_definitions.proofs.Entries.{found}
use Rattle.ghg_definitions.proofs.Keys.{key_eq, key_ties, keys_total, keys_same}
use Rattle.ghg_data.specs.Changes.{Change, applied}

-- a record, unless a change stands over it
abbrev pub over : Option (Option Record) → Option Record → Option Record
over None r = r
over (Some c) r = c

over_cond : (b : Bool) (c r : Option Record) (o : Option (Option Record)) → cond b c (over o r) ≡ over (cond b (Some c) o) r
over_cond true c r o = refl
over_cond false c r o = refl

pub get-applied : (m : Data) (cs : List Change) (q : RecordKey) → get (applied m cs) q ≡ over (find key_cmp q cs) (get m q)
get-applied m [] q = refl
get-applied m (c ∷ cs) q =
    get-with_record (applied m cs) c.0 c.1 q ∙ ap (cond (eq_by_cmp key_cmp q c.0) c.1) (get-applied m cs q) ∙ over_cond (eq_by_cmp key_cmp q c.0) c.1 (get m q) (find key_cmp q cs)

-- one more change over the others
pub applied-put : (m : Data) (old new : List Change) (k : RecordKey) (c : Option Record)
    → ((q : RecordKey) → lookup (key_eq q) new ≡ cond (key_eq k q) (Some c) (lookup (key_eq q) old)) → applied m new ≡ with_record (applied m old) k c
applied-put m old new k c h = same_map keys_total keys_same _ _ (λ q.
    get-applied m new q
    ∙ ap (λ o. over o (get m q)) (sym (found keys_total key_eq key_ties q new) ∙ h q ∙ ap₂ (λ b o. cond b (Some c) o) (key_ties k q ∙ (eq_by_cmp_equiv keys_total).symm k q) (found keys_total key_eq key_ties q old))
    ∙ sym (over_cond (eq_by_cmp key_cmp q k) c (get m q) (find key_cmp q old))
    ∙ ap (cond (eq_by_cmp key_cmp q k) c) (sym (get-applied m old q))
    ∙ sym (get-with_record (applied m old) k c q))

-- a change below the others
pub applied-pop : (m : Data) (cs : List Change) (c : Change) → applied m (cs ++ (c ∷ [])) ≡ applied (with_record m c.0 c.1) cs
applied-pop m [] c = refl
applied-pop m (d ∷ cs) c = ap (λ n. with_record n d.0 d.1) (applied-pop m cs c)

pub on_ok : {T E : Type 0} (r : Result T E) (x : T) (P : Type 0) → r ≡ Ok x → OnOk r P → P
on_ok (Ok y) x P e h = h
on_ok (Err y) x P e h = absurd (cc)
