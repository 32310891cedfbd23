-- What is noted of the edited lines, key by key.
use Rattle.std.proofs.Common.{◌≡◌, ◌≤◌, ◌<◌, ◌+◌, inl, inr, ℕ, Bool, true, false, not, ◌&&◌, ◌||◌, nat_le, le-leb, leb-true, is_some, List, [], ◌∷◌, ◌++◌, Option, Some, None, option_and_then, length, get_or, take, sym, refl, ap, ◌∙◌, subst, arith}
use Rattle.std.specs.FinMap.{get}
use Rattle.std.specs.BTreeSet.{BTreeSet, Updates, contains}
use Rattle.ghg_categories.specs.declared.category.Category.{Category}
use Rattle.ghg_equations.specs.declared.quantity.Gas.{Gas}
use Rattle.ghg_equations.specs.Quantity.{gas_of}
use Rattle.ghg_equations.specs.Table.{output}
use Rattle.ghg_units.specs.declared.node.Node.{Node}
use Rattle.ghg_units.specs.declared.node.Node.TheVariants as node
use Rattle.ghg_units.specs.declared.row.Span.{Span}
use Rattle.ghg_definitions.specs.declared.record.Record.{Record}
use Rattle.ghg_definitions.specs.declared.record.Record.TheVariants as entry
use Rattle.ghg_definitions.specs.declared.record.RecordKey.{RecordKey}
use Rattle.ghg_definitions.specs.declared.record.RecordKey.TheVariants as key
use Rattle.ghg_affected.proofs.Bools.{true_not_false}
use Rattle.ghg_definitions.proofs.Alike.{both, first_so, second_so}
use Rattle.ghg_definitions.proofs.Depth.{or_else}
use Rattle.ghg_definitions.specs.Compilation.{emits, is_node, is_year_of}
use Rattle.ghg_definitions.specs.Data.{Data, Name, as_category, as_line, line_name, name_cmp, span}
use Rattle.ghg_shifts.specs.declared.shifts.Shifts.{Shifts}
use Rattle.ghg_shifts.specs.Noted.{AreNoted, emitted_at, no_line}
use Rattle.ghg_shifts.specs.Progress.{AreNotedBefore, AreNotedUntil, IsEdit, has_come, has_equivalent, is_edited, is_gone}
use Rattle.ghg_shifts.proofs.Progress.{equivalent_listed, line_begun, line_ended, none_edited, other_key}
use Rattle.ghg_shifts.proofs.Steps.{nodes_are_noted}
use Rattle.ghg_engine.specs.declared.notes.Notes.{Notes}
use Rattle.ghg_engine.specs.Notes.{AreNotes}
use Rattle.ghg_engine.proofs.Noting.{line_edited, next_taken, none_edited_by, others_as_before}

-- ---- years

-- a year of the data is one of the span, from the first to the last
within : (m : Data) (s : Span) → span m ≡ Some s → (year : ℕ) → is_year_of (span m) year ≡ true → (s.first ≤ year) × (year ≤ s.last)
within m s e year is =
    let at : nat_le s.first year && nat_le year s.last ≡ true = ap (λ o. is_year_of o year) (sym e) ∙ is in
    (leb-true s.first year (first_so (nat_le s.first year) _ at), leb-true year s.last (second_so (nat_le s.first year) _ at))

pub is_within : (m : Data) (s : Span) → span m ≡ Some s → (year : ℕ) → s.first ≤ year → year < s.last + 1 → is_year_of (span m) year ≡ true
is_within m s e year low high = ap (λ o. is_year_of o year) e ∙ both _ _ (le-leb s.first year low) (le-leb year s.last (omega (arith, high)))

-- ---- keys

pub no_name : (k : RecordKey) → ((name : Name) → k ≡ key.Line name → ⊥) → line_name k ≡ None
no_name key.Span never = refl
no_name (key.Activity name year) never = refl
no_name (key.Factor name start) never = refl
no_name (key.Line name) never = absurd (never name refl)
no_name (key.Bind line parameter) never = refl
no_name (key.Uncert line) never = refl

-- a line that emits at no category emits no gas
emits_nowhere : (m : Data) (name : Name) → is_some (emitted_at m name) ≡ false → emits m name ≡ false
emits_nowhere m name nowhere = by (get m (key.Line name)) nowhere
  where
    with_gas : (c : Category) (o : Option Gas) → is_some (option_and_then (λ gas. Some c) o) ≡ false → is_some o ≡ false
    with_gas c None e = refl
    with_gas c (Some gas) e = e

    by : (r : Option Record) → is_some (option_and_then (λ gas. as_category r) (option_and_then (λ d. gas_of (output d)) (as_line r))) ≡ false
        → is_some (option_and_then (λ d. gas_of (output d)) (as_line r)) ≡ false
    by None e = refl
    by (Some (entry.Line c d)) e = with_gas c (gas_of (output d)) e
    by (Some _) e = refl

-- where the equivalent is given
neither : (a b given : Bool) → given ≡ true → (a && not given) ≡ (b && not given)
neither true true true is = refl
neither true false true is = refl
neither false true true is = refl
neither false false true is = refl
neither a b false is = absurd (true_not_false (sym is))

module _ (old new : Data) (all : List RecordKey) (given : List Node) (edit : IsEdit old new all given) where
  -- at first no key is gone over
  pub nothing_noted : (notes : Notes) → AreNoted old new (λ year. no_line) (λ year. no_line) notes.shifts → ((name : Name) → contains name_cmp notes.edited name ≡ is_edited [] name) → AreNotes old new [] given [] notes
  nothing_noted notes noted empty = record { noted = none_edited old new all given edit notes.shifts noted; edited = empty }

  module _ (keys : List RecordKey) (i : ℕ) (k : RecordKey) (inside : i < length keys) (at : k ≡ get_or keys i k) where
    -- a key of no line
    pub other_noted : ((name : Name) → k ≡ key.Line name → ⊥) → (notes : Notes) → AreNotes old new (take i keys) given [] notes → AreNotes old new (take (i + 1) keys) given [] notes
    other_noted never notes are = subst (λ ks. AreNotes old new ks given [] notes) (sym (next_taken keys i k inside at)) (record {
      noted = other_key old new all given edit (take i keys) k notes.shifts (no_name k never) are.noted;
      edited = λ name. are.edited name ∙ none_edited_by (take i keys) k (no_name k never) name;
    })

    module _ (name : Name) (is : k ≡ key.Line name) where
      next : take (i + 1) keys ≡ take i keys ++ key.Line name ∷ []
      next = next_taken keys i k inside at ∙ ap (λ q. take i keys ++ q ∷ []) is

      pub edited_next : (before after : BTreeSet Name) → Updates name_cmp before after name true → ((other : Name) → contains name_cmp before other ≡ is_edited (take i keys) other)
          → (other : Name) → contains name_cmp after other ≡ is_edited (take (i + 1) keys) other
      edited_next before after updates are other = line_edited (take i keys) before after name updates are other ∙ ap (λ ks. is_edited ks other) (sym next)

      -- without years nothing is to be noted
      pub no_years : None ≡ span new → (notes : Notes) → ((other : Name) → contains name_cmp notes.edited other ≡ is_edited (take (i + 1) keys) other) → AreNotes old new (take (i + 1) keys) given [] notes
      no_years none notes edited = record {
        noted = subst (λ ks. AreNotedBefore old new ks given [] notes.shifts) (sym next) (line_ended old new all given edit (take i keys) name 0 notes.shifts (λ year on. never year on)
            (record { noted = record { each = λ year on. never year on } }));
        edited = edited;
      }
        where
          never : {A : Type 0} (year : ℕ) → is_year_of (span new) year ≡ true → A
          never year on = absurd (true_not_false (sym on ∙ ap (λ o. is_year_of o year) (sym none)))

      -- nor is anything of a line that emitted nothing before: its equivalents are new, and so all are given
      module _ (nowhere : is_some (emitted_at old name) ≡ false) where
        no_node : (year : ℕ) → is_node old (node.Equiv name year) ≡ false
        no_node year = ap (λ b. b && is_year_of (span old) year) (emits_nowhere old name nowhere)

        all_given : (year : ℕ) → is_node new (node.Equiv name year) ≡ true → has_equivalent given year name ≡ true
        all_given year there = equivalent_listed given year name (edit.affected (node.Equiv name year)
            (record { first = node.Equiv name year; others = []; changed = record { node = there; differs = inl (no_node year) }; leads = refl }))

        abbrev some : List RecordKey
        some = take i keys

        abbrev more : List RecordKey
        more = some ++ key.Line name ∷ []

        gone_alike : (year : ℕ) (other : Name) → is_node old (node.Equiv other year) ≡ true → is_gone some [] year other ≡ is_gone more [] year other
        gone_alike year other there = ap (λ b. b || false)
            (others_as_before some name other (λ e. true_not_false (sym (subst (λ k. is_node old (node.Equiv k year) ≡ true) e there) ∙ no_node year)))

        come_alike : (year : ℕ) (other : Name) → is_node new (node.Equiv other year) ≡ true → has_come some given [] year other ≡ has_come more given [] year other
        come_alike year other there = elim (or_else (has_equivalent given year other)) [
          | inl is ↦ ap (λ b. b || false) (neither (is_edited some other) (is_edited more other) _ is)
          | inr none ↦ ap (λ b. (b && not (has_equivalent given year other)) || false)
              (others_as_before some name other (λ e. true_not_false
              (sym (all_given year (subst (λ k. is_node new (node.Equiv k year) ≡ true) e there)) ∙ subst (λ k. has_equivalent given year k ≡ false) e none)))
        ]

        pub stood_nowhere : (notes : Notes) → AreNotedBefore old new some given [] notes.shifts → ((other : Name) → contains name_cmp notes.edited other ≡ is_edited (take (i + 1) keys) other)
            → AreNotes old new (take (i + 1) keys) given [] notes
        stood_nowhere notes are edited = record {
          noted = subst (λ ks. AreNotedBefore old new ks given [] notes.shifts) (sym next) (record {
            noted = record {
              each = λ year on leaf. are.noted.each year on leaf ∙ nodes_are_noted old new edit.change.before edit.change.after
                  (is_gone some [] year) (has_come some given [] year) (is_gone more [] year) (has_come more given [] year) year leaf
                  (λ other there at. gone_alike year other there) (λ other there at. come_alike year other there);
            };
            among = are.among;
          });
          edited = edited;
        }

      module _ (s : Span) (years : span new ≡ Some s) where
        pub begun : (shifts : Shifts) → AreNotedBefore old new (take i keys) given [] shifts → AreNotedUntil old new (take i keys) given name s.first shifts
        begun shifts are = line_begun old new all given edit (take i keys) name s.first shifts (λ year on. (within new s years year on).0) are

        pub ended : (end : ℕ) → s.last < end → (notes : Notes) → AreNotedUntil old new (take i keys) given name end notes.shifts → ((other : Name) → contains name_cmp notes.edited other ≡ is_edited (take (i + 1) keys) other)
            → AreNotes old new (take (i + 1) keys) given [] notes
        ended end behind notes are edited = record {
          noted = subst (λ ks. AreNotedBefore old new ks given [] notes.shifts) (sym next) (line_ended old new all given edit (take i keys) name end notes.shifts
              (λ year on. let most = (within new s years year on).1 in omega (arith, most, behind)) are);
          edited = edited;
        }
