-- The forms of the lines of a review, as the parser reads them.
use Rattle.std.proofs.Common.{◌≡◌, ℕ, ◌&&◌, ◌⊎◌, inl, inr, List, ◌∷◌, ◌++◌, refl, sym, ap, subst, ◌∙◌, Option, None, Some, option_map}
use Rattle.std.specs.Prelude.{codes}
use Rattle.std.specs.Option.{option_and_then, option_map_or}
use Rattle.std.proofs.lemmas.Bool.{and_parts}
use Rattle.std.proofs.lemmas.Option.{none-some, option_and_then_some, same_Some}
use Rattle.ghg_script.specs.declared.command.Line.{Line}
use Rattle.ghg_script.specs.declared.command.Line.TheVariants as line
use Rattle.ghg_script.specs.declared.review.ReviewQuery.{ReviewQuery}
use Rattle.ghg_script.specs.declared.review.ReviewQuery.TheVariants.{Freeze, Recalc, Show, Trend}
use Rattle.ghg_script.specs.declared.script.TableQuery.{TableQuery}
use Rattle.ghg_script.specs.Commands.{lacks}
use Rattle.ghg_script.specs.Review.{IsReviewFormOf, as_review, freeze_form, further_query, recalc_form, review_forms, trend_form}
use Rattle.ghg_script.specs.Script.{IsFormOf, SaysForms, script_forms}
use Rattle.ghg_script.specs.Words.{after_word, has_length, year_in}
use Rattle.ghg_script.proofs.Forms.{Follows, cut_is, follows, follows_or, form_is, if_holds, says, year_is, year_of}
use Rattle.ghg_script.proofs.Splits.{split_of}

-- ---- from a form to its words

form_script : (text : List ℕ) (said : Line TableQuery) → script_forms text ≡ Some said
    → review_forms text ≡ Some (as_review said)
unfolding review_forms
form_script text said e = rw e refl

form_freeze : (words : List ℕ)
    → review_forms (codes "FREEZE " ++ words) ≡ option_map (λ q. line.Query q) (freeze_form words)
unfolding review_forms script_forms
form_freeze words = refl

form_recalc : (words : List ℕ)
    → review_forms (codes "RECALC " ++ words) ≡ option_map (λ q. line.Query q) (recalc_form words)
unfolding review_forms script_forms
form_recalc words = refl

form_trend : (words : List ℕ)
    → review_forms (codes "TREND " ++ words) ≡ option_map (λ q. line.Query q) (trend_form words)
unfolding review_forms script_forms
form_trend words = refl

says_review : (form : Line ReviewQuery) (text : List ℕ) → IsReviewFormOf form text
    → review_forms text ≡ Some form
says_review (line.Submit id n) text f = form_script text (line.Submit id n) (says (line.Submit id n) text f)
says_review (line.Query (Show query)) text f =
    form_script text (line.Query query) (says (line.Query query) text f)
says_review (line.Query (Freeze name)) text f = ap review_forms f.0 ∙ form_freeze name ∙ rw (f.1.0, f.1.1) refl
says_review (line.Query (Recalc name year)) text f =
    ap review_forms f.1 ∙ form_recalc (name ++ 32 ∷ f.0)
    ∙ rw (split_of 32 name f.0 f.2.1, year_of f.0 year f.3, f.2.0) refl
says_review (line.Query (Trend year)) text f =
    ap review_forms f.1 ∙ form_trend f.0 ∙ rw (year_of f.0 year f.2) refl
says_review line.End text f = form_script text line.End (says line.End text f)

-- ---- from the words to a form

-- what the query of a line is the form of
abbrev IsQueryOf : List ℕ → ReviewQuery → Type 0
IsQueryOf text query = IsReviewFormOf (line.Query query) text

freeze_is : (name : List ℕ) (query : ReviewQuery) → freeze_form name ≡ Some query
    → IsQueryOf (codes "FREEZE " ++ name) query
freeze_is name query h =
    let passed = if_holds (has_length 1 60 name && lacks 32 name) (Some (Freeze name)) query h in
    let both = and_parts (has_length 1 60 name) (lacks 32 name) passed.0 in
    subst (IsQueryOf (codes "FREEZE " ++ name)) (same_Some (Freeze name) query passed.1)
    (refl, (both.0, both.1))

recalc_is : (words : List ℕ) (query : ReviewQuery) → recalc_form words ≡ Some query
    → IsQueryOf (codes "RECALC " ++ words) query
recalc_is words query h =
    let cut = cut_is year_in (has_length 1 60) (λ name year. Recalc name year) words query h in
    subst (IsQueryOf (codes "RECALC " ++ words)) cut.made (
      cut.digits,
      ap (λ (l : List ℕ). codes "RECALC " ++ l) cut.split.whole,
      (cut.fits, cut.split.plain),
      year_is cut.digits cut.n cut.number_is,
    )

trend_is : (digits : List ℕ) (query : ReviewQuery) → trend_form digits ≡ Some query
    → IsQueryOf (codes "TREND " ++ digits) query
trend_is digits query h = by (year_in digits) refl h
  where
    by : (read : Option ℕ) → year_in digits ≡ read → option_map (λ year. Trend year) read ≡ Some query
        → IsQueryOf (codes "TREND " ++ digits) query
    by (Some year) e k =
        subst (IsQueryOf (codes "TREND " ++ digits)) (same_Some (Trend year) query k)
        (digits, refl, year_is digits year e)
    by None e k = absurd (none-some query k)

query_is : (text : List ℕ) (query : ReviewQuery) → further_query text ≡ Some query → IsQueryOf text query
query_is text query h = by_freeze (follows_or (codes "FREEZE ") text freeze_form _ query h)
  where
    behind : (word : List ℕ) (says : List ℕ → Option ReviewQuery)
        → ((words : List ℕ) → says words ≡ Some query → IsQueryOf (word ++ words) query)
        → Follows word text says query → IsQueryOf text query
    behind word says is found = subst (λ t. IsQueryOf t query) (sym found.whole) (is found.words found.is)

    by_recalc : Follows (codes "RECALC ") text recalc_form query
        ⊎ (option_and_then trend_form (after_word (codes "TREND ") text) ≡ Some query) → IsQueryOf text query
    by_recalc (inl found) = behind (codes "RECALC ") recalc_form (λ words. recalc_is words query) found
    by_recalc (inr later) =
        behind (codes "TREND ") trend_form (λ words. trend_is words query)
        (follows (codes "TREND ") text trend_form query later)

    by_freeze : Follows (codes "FREEZE ") text freeze_form query
        ⊎ (option_map_or recalc_form (after_word (codes "RECALC ") text)
        (option_and_then trend_form (after_word (codes "TREND ") text)) ≡ Some query) → IsQueryOf text query
    by_freeze (inl found) =
        behind (codes "FREEZE ") freeze_form (λ words. freeze_is words query) found
    by_freeze (inr later) = by_recalc (follows_or (codes "RECALC ") text recalc_form _ query later)

script_is : (said : Line TableQuery) (text : List ℕ) → IsFormOf said text
    → IsReviewFormOf (as_review said) text
script_is (line.Submit id n) text f = f
script_is (line.Query query) text f = f
script_is line.End text f = f

review_is : (text : List ℕ) (form : Line ReviewQuery) → review_forms text ≡ Some form
    → IsReviewFormOf form text
unfolding review_forms
review_is text form h = by_script (script_forms text) refl h
  where
    by_query : (asked : Option ReviewQuery) → further_query text ≡ asked
        → option_map (λ query. line.Query query) asked ≡ Some form → IsReviewFormOf form text
    by_query (Some query) e k =
        subst (λ f. IsReviewFormOf f text) (same_Some (line.Query query) form k) (query_is text query e)
    by_query None e k = absurd (none-some form k)

    by_script : (said : Option (Line TableQuery)) → script_forms text ≡ said
        → option_map_or (λ said. Some (as_review said)) said
        (option_map (λ query. line.Query query) (further_query text)) ≡ Some form → IsReviewFormOf form text
    by_script (Some said) e k =
        subst (λ f. IsReviewFormOf f text) (same_Some (as_review said) form k)
        (script_is said text (form_is text said e))
    by_script None e k = by_query (further_query text) refl k

pub says_review_forms : SaysForms review_forms IsReviewFormOf
says_review_forms text form = (review_is text form, says_review form text)
