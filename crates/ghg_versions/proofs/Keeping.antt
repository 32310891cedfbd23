-- What versions keep stays true, whatever is submitted.
use Rattle.std.proofs.Common.{◌≡◌, ◌≤◌, List, [], ◌∷◌, ◌++◌, length, inl, inr, ℕ, arith, sym, ap, subst, ◌∙◌, length-append}
use Rattle.std.specs.List.{All}
use Rattle.std.proofs.lemmas.List.{take-append-le}
use Rattle.std.proofs.lemmas.List.Elements.{All-weaker}
use Rattle.std.proofs.Math.Seq.{take-length}
use Rattle.ghg_definitions.specs.Data.{Data}
use Rattle.ghg_keeper.specs.declared.row.KeptRow.{KeptRow}
use Rattle.ghg_office.specs.declared.reply.Reply.{Reply}
use Rattle.ghg_office.specs.declared.reply.Reply.TheVariants.{Accepted, Repeated, Refused, Table, NoTable, KeeperFault, Memory}
use Rattle.ghg_office.specs.Laws.{IsRebuilt, state_after_all}
use Rattle.ghg_office.specs.Office.{State, start, submitted}
use Rattle.ghg_office.specs.Replies.{Answers}
use Rattle.ghg_office.proofs.Cases.{submitted_cases}
use Rattle.ghg_versions.specs.declared.version.KeptVersion.{KeptVersion}
use Rattle.ghg_versions.specs.Desk.{data_of}
use Rattle.ghg_versions.specs.Versions.{IsKept, IsReportOf}

-- the data that the first submissions give stay when more are accepted
data_stays : (list more : List KeptRow) (seq : ℕ) → seq ≤ length list → data_of (list ++ more) seq ≡ data_of list seq
data_stays list more seq h = ap (λ rows. (state_after_all start rows).content) (take-append-le seq list more h)

kept_stays : (list more : List KeptRow) (v : KeptVersion) → IsKept list v → IsKept (list ++ more) v
kept_stays list more v kept = record {
  within = omega (arith, length-append list more, kept.within);
  report = subst (λ m. IsReportOf m v.report) (sym (data_stays list more v.seq kept.within)) kept.report;
}

module _ (s : State) (id body : List ℕ) (vs : List KeptVersion) (kept : All (IsKept s.accepted) vs) where
  submitted_keeps : All (IsKept (submitted s id body).after.accepted) vs
  submitted_keeps = elim (submitted_cases s id body) [
    | inl left ↦ subst (λ t. All (IsKept t.accepted) vs) (sym left.after) kept
    | inr new ↦ subst (λ answer. All (IsKept answer.after.accepted) vs) (sym new.answers)
        (All-weaker (IsKept s.accepted) (IsKept (s.accepted ++ (record { id = id; body = body } ∷ []))) (λ v h. kept_stays s.accepted (record { id = id; body = body } ∷ []) v h) vs kept)
  ]

  -- with any answer to a submission
  pub answered_keeps : (after : State) (reply : Reply) → Answers (submitted s id body) reply s after → All (IsKept after.accepted) vs
  answered_keeps after KeeperFault same = subst (λ t. All (IsKept t.accepted) vs) (sym same) kept
  answered_keeps after Memory same = subst (λ t. All (IsKept t.accepted) vs) (sym same) kept
  answered_keeps after (Accepted seq cells) made = subst (λ t. All (IsKept t.accepted) vs) (sym made.1) submitted_keeps
  answered_keeps after (Repeated seq) made = subst (λ t. All (IsKept t.accepted) vs) (sym made.1) submitted_keeps
  answered_keeps after (Refused rule) made = subst (λ t. All (IsKept t.accepted) vs) (sym made.1) submitted_keeps
  answered_keeps after (Table text) made = subst (λ t. All (IsKept t.accepted) vs) (sym made.1) submitted_keeps
  answered_keeps after NoTable made = subst (λ t. All (IsKept t.accepted) vs) (sym made.1) submitted_keeps

-- the accepted submissions give the present data
data_now : (s : State) → IsRebuilt s → data_of s.accepted (length s.accepted) ≡ s.content
data_now s rebuilt = ap (λ rows. (state_after_all start rows).content) (take-length s.accepted) ∙ ap (λ t. t.content) rebuilt.same

-- so a version that is frozen now has their values
pub kept_now : (s : State) → IsRebuilt s → (m : Data) → m ≡ s.content → (v : KeptVersion) → v.seq ≡ length s.accepted → IsReportOf m v.report → IsKept s.accepted v
kept_now s rebuilt m same v seq report = record {
  within = omega arith;
  report = subst (λ n. IsReportOf n v.report) (same ∙ sym (data_now s rebuilt) ∙ ap (data_of s.accepted) (sym seq)) report;
}
