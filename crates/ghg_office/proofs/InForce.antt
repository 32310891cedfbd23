-- The data in force break no rule, and the bounds that are printed of them hold.
use Rattle.std.proofs.Common.{◌≡◌, ◌+◌, ◌∙◌, ℕ, Bool, true, false, if◌then◌else◌, List, [], ◌∷◌, length, Option, Some, None, Result, Ok, Err, inl, inr, refl, sym, ap, subst, lit≤}
use Rattle.ghg_data.proofs.Empty.{is_acyclic, is_workbook}
use Rattle.ghg_definitions.specs.Compilation.{compilation, is_year_of, overflow}
use Rattle.ghg_definitions.specs.Data.{Data, span}
use Rattle.ghg_definitions.specs.Rules.{accepted, arranged}
use Rattle.ghg_definitions.specs.Rings.{IsAcyclic}
use Rattle.ghg_definitions.specs.Sound.{IsWorkbook}
use Rattle.ghg_definitions.proofs.Rings.{arranged_keeps}
use Rattle.ghg_engine.proofs.Nothing.{nothing_over}
use Rattle.ghg_import.specs.Reading.{reading_of}
use Rattle.ghg_import.proofs.Formed.{all_formed}
use Rattle.ghg_tables.specs.declared.table.Table.{Table}
use Rattle.ghg_tables.specs.Names.{table_in}
use Rattle.ghg_tables.specs.SoundTexts.{IsSoundText}
use Rattle.ghg_tables.specs.Tables.{table_text}
use Rattle.ghg_tables.proofs.Sound.{texts_sound}
use Rattle.ghg_units.specs.declared.node.Node.{Node}
use Rattle.ghg_units.specs.declared.rule.Rule.{Rule}
use Rattle.ghg_keeper.specs.declared.row.KeptRow.{KeptRow}
use Rattle.ghg_office.specs.Accepted.{kept_bytes}
use Rattle.ghg_office.specs.declared.reply.Reply.TheVariants.{NoTable, Table as Shown}
use Rattle.ghg_office.specs.Laws.{BoundsHoldInForce, IsInForce, StatesStayInForce, state_after_all}
use Rattle.ghg_office.specs.Office.{State, asked, decided, entered, entered_by, requested, start, submitted}
use Rattle.ghg_office.specs.Sound.{IsSoundReply}
use Rattle.ghg_office.proofs.Cases.{submitted_cases}
use Rattle.ghg_office.proofs.Entered.{compiled, entered-bytes, entered-overflow, within_limits}
use Rattle.ghg_office.proofs.Kept.{kept_bytes-push}

-- what holds of a state and stays with each submission holds of each state that submissions lead to from there
pub reached : (P : State → Type 0) → ((s : State) (id body : List ℕ) → P s → P (submitted s id body).after) → (s : State) (given : List KeptRow) → P s → P (state_after_all s given)
reached P stays s [] h = h
reached P stays s (x ∷ given) h = reached P stays (submitted s x.id x.body).after given (stays s x.id x.body h)

-- data that rows leave are a workbook without a ring
entered_keeps : (m n : Data) (body : List ℕ) (bytes : ℕ) → IsWorkbook m → entered m (reading_of body) bytes ≡ Ok n → IsWorkbook n × IsAcyclic n
unfolding entered accepted
entered_keeps m n body bytes w e = by (arranged m (reading_of body).rows (reading_of body).rest bytes) refl e
  where
    within : (k : Data) (node : Option Node) → arranged m (reading_of body).rows (reading_of body).rest bytes ≡ Ok k → within_limits k node ≡ Ok n → IsWorkbook n × IsAcyclic n
    within k None a e = let same : k ≡ n = cc in subst (λ x. IsWorkbook x × IsAcyclic x) same (arranged_keeps m k (reading_of body).rows (reading_of body).rest bytes w (all_formed body) a)
    within k (Some node) a e = absurd (cc)

    by : (r : Result Data Rule) → arranged m (reading_of body).rows (reading_of body).rest bytes ≡ r → compiled r ≡ Ok n → IsWorkbook n × IsAcyclic n
    by (Ok k) a e = within k (overflow k) a e
    by (Err rule) a e = absurd (cc)

module _ (s : State) (id body : List ℕ) (h : IsInForce s) where
  accepted_stays : (m : Data) → entered_by s body ≡ Ok m → IsInForce (decided s id body (Ok m)).after
  accepted_stays m e =
      let kept = entered_keeps s.content m body (kept_bytes s.accepted + length body) h.workbook e in
      record {
        workbook = kept.0;
        acyclic = kept.1;
        fits = entered-overflow s.content m (reading_of body) (kept_bytes s.accepted + length body) e;
        kept = rw (kept_bytes-push s.accepted (record { id = id; body = body })) (entered-bytes s.content m (reading_of body) (kept_bytes s.accepted + length body) e);
      }

  submitted_stays : IsInForce (submitted s id body).after
  submitted_stays = elim (submitted_cases s id body) [
    | inl left ↦ subst IsInForce (sym left.after) h
    | inr new ↦ subst (λ answer. IsInForce answer.after) (sym new.answers) (accepted_stays new.content new.made)
  ]

-- the start is in force, and so is what a submission to a state in force leads to
pub record Stays : Type 0 where
  pub first : IsInForce start
  pub later : (s : State) (id body : List ℕ) → IsInForce s → IsInForce (submitted s id body).after

pub states_stay : Stays
states_stay = record {
  first = record { workbook = is_workbook; acyclic = is_acyclic; fits = nothing_over; kept = lit≤ tt };
  later = λ s id body h. submitted_stays s id body h;
}

pub states_in_force : StatesStayInForce
states_in_force given = reached IsInForce states_stay.later start given states_stay.first

-- the text of each table of the data in force is sound
pub bounds_hold : (s : State) → IsInForce s → (table : Table) (year : ℕ) → IsSoundText table s.content year (table_text table s.content (compilation s.content) year)
bounds_hold s h table year = texts_sound s.content h.workbook h.acyclic table year

-- and so is the reply to each request for one
pub requested_sound : BoundsHoldInForce
unfolding requested
requested_sound s h name year = by (table_in name) refl
  where
    shown : (table : Table) → table_in name ≡ Some table → (within : Bool) → is_year_of (span s.content) year ≡ within
        → requested s name year ≡ asked s year (Some table) → IsSoundReply s name year (if within then Shown (table_text table s.content (compilation s.content) year) else NoTable)
    shown table named true within is = record { table = table; named = named; within = within; sound = bounds_hold s h table year }
    shown table named false without is = is ∙ ap (λ b. if b then Shown (table_text table s.content (compilation s.content) year) else NoTable) without

    by : (found : Option Table) → table_in name ≡ found → IsSoundReply s name year (asked s year found)
    by None unknown = ap (asked s year) unknown
    by (Some table) named = shown table named (is_year_of (span s.content) year) refl (ap (asked s year) named)
