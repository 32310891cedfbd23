-- What a search from line to line keeps, and what it comes to.
use Rattle.std.proofs.Common.{◌≡◌, ◌≢◌, ◌⊎◌, ℕ, zero, suc, ◌+◌, ◌<◌, ◌≤◌, Bool, true, false, List, [], ◌∷◌, ◌++◌, length, get_or, set, reverse, MatchBool, length-append, length-set, get_or-set_other, refl, sym, ap, ◌∙◌, subst, inl, inr, arith}
use Rattle.std.proofs.lemmas.List.{append-nil, get_or_append_left, get_or_push}
use native.Mathlib.Decide.{ℕ_discrete}
use Prim.{yes, no}
use Rattle.ghg_definitions.specs.Rings.{IsRing, Leads}
use Rattle.ghg_definitions.specs.Listed.{IsListed}
use Rattle.ghg_definitions.proofs.Chains.{turned}
use Rattle.ghg_definitions.proofs.Listed.{listed_left, listed_right}
use Rattle.ghg_graph.specs.declared.search.Search.{Search}
use Rattle.ghg_graph.specs.Links.{AreWithin, BeginsWith, IsLink, IsOnNoRing, IsRingFrom, Links, targets_of}
use Rattle.ghg_graph.specs.Stops.{AreClear}
use Rattle.ghg_graph.specs.Trails.{IsBegun, IsClosed, IsFound, IsLed, IsLooked, IsNoted, IsOver, IsPassed, IsSearch, IsTrail, IsWay, extent}
use Rattle.ghg_graph.specs.Walks.{IsMarked, IsUnmarked, unmarked}
use Rattle.ghg_graph.proofs.Marks.{at_listed, place_of, reverse_push, unmarked_set}

longer : (xs : List ℕ) (x : ℕ) → length (xs ++ x ∷ []) ≡ length xs + 1
longer xs x = length-append xs (x ∷ [])

-- where k is below, or is the last
kept : (xs : List ℕ) (x : ℕ) (k : ℕ) → k < length xs → get_or (xs ++ x ∷ []) k 0 ≡ get_or xs k 0
kept xs x k h = get_or_append_left xs (x ∷ []) 0 k h

last_is : (xs : List ℕ) (x : ℕ) (k : ℕ) → length xs ≡ k → get_or (xs ++ x ∷ []) k 0 ≡ x
last_is xs x k e = get_or_push xs x 0 k e

split : (xs : List ℕ) (x k : ℕ) → k < length (xs ++ x ∷ []) → (k < length xs) ⊎ (length xs ≡ k)
split xs x k h = elim (ℕ_discrete (length xs) k) [ yes e ↦ inr e | no n ↦ inl (let l : length (xs ++ x ∷ []) ≡ length xs + 1 = longer xs x in omega arith) ]

-- ---- a trail with a line more

module _ (links : Links) (start : ℕ) (lines led_by : List ℕ) (trail : IsTrail links start lines led_by) (target head : ℕ) (here : head < length lines) (taken : IsLink links (get_or lines head 0) target) where
  same_length : length led_by ≡ length lines
  same_length = trail.led.same

  earlier_more : (k : ℕ) → 0 < k → k < length (lines ++ target ∷ []) → get_or (led_by ++ head ∷ []) k 0 < k
  earlier_more k p h = elim (split lines target k h) [
    | inl l ↦ subst (λ x. x < k) (sym (kept led_by head k (let e : length led_by ≡ length lines = same_length in omega arith))) (trail.led.earlier k p l)
    | inr e ↦ subst (λ x. x < k) (sym (last_is led_by head k (same_length ∙ e))) (omega arith)
  ]

  taken_more : (k : ℕ) → 0 < k → k < length (lines ++ target ∷ []) → IsLink links (get_or (lines ++ target ∷ []) (get_or (led_by ++ head ∷ []) k 0) 0) (get_or (lines ++ target ∷ []) k 0)
  taken_more k p h = elim (split lines target k h) [
    | inl l ↦ (
        let from : get_or (led_by ++ head ∷ []) k 0 ≡ get_or led_by k 0 = kept led_by head k (let e : length led_by ≡ length lines = same_length in omega arith) in
        let less : get_or led_by k 0 < k = trail.led.earlier k p l in
        let before : get_or (lines ++ target ∷ []) (get_or (led_by ++ head ∷ []) k 0) 0 ≡ get_or lines (get_or led_by k 0) 0 = ap (λ j. get_or (lines ++ target ∷ []) j 0) from ∙ kept lines target (get_or led_by k 0) (omega arith) in
        subst (λ x. IsLink links x (get_or (lines ++ target ∷ []) k 0)) (sym before) (subst (IsLink links (get_or lines (get_or led_by k 0) 0)) (sym (kept lines target k l)) (trail.taken k p l)))
    | inr e ↦ (
        let from : get_or (led_by ++ head ∷ []) k 0 ≡ head = last_is led_by head k (same_length ∙ e) in
        let before : get_or (lines ++ target ∷ []) (get_or (led_by ++ head ∷ []) k 0) 0 ≡ get_or lines head 0 = ap (λ j. get_or (lines ++ target ∷ []) j 0) from ∙ kept lines target head here in
        subst (λ x. IsLink links x (get_or (lines ++ target ∷ []) k 0)) (sym before) (subst (IsLink links (get_or lines head 0)) (sym (last_is lines target k e)) taken))
  ]

  trail_more : IsTrail links start (lines ++ target ∷ []) (led_by ++ head ∷ [])
  trail_more = record {
    led = record { same = longer led_by head ∙ ap (λ n. n + 1) same_length ∙ sym (longer lines target); earlier = earlier_more };
    some = let l : length (lines ++ target ∷ []) ≡ length lines + 1 = longer lines target in omega arith;
    first = kept lines target 0 trail.some ∙ trail.first;
    taken = taken_more;
  }

-- ---- the start alone

none_before : (k : ℕ) → k < 0 → ⊥
none_before k h = omega arith

only_first : (k : ℕ) → 0 < k → k < 1 → ⊥
only_first k p h = omega arith

pub begun : (links : Links) (clear : List Bool) (start : ℕ) (s : Search) → AreClear links clear → start < length links → IsBegun clear start s → IsSearch links start s 0
begun links clear start s are small is = record {
  trail = subst (λ xs. IsTrail links start xs s.led_by.items) (sym is.lines) (subst (IsTrail links start (start ∷ [])) (sym is.led_by) (record {
    led = record { same = refl; earlier = λ k p h. absurd (only_first k p h) };
    some = omega arith;
    first = refl;
    taken = λ k p h. absurd (only_first k p h);
  }));
  within = subst (λ xs. (k : ℕ) → k < length xs → get_or xs k 0 < length links) (sym is.lines) first_small;
  wide = ap length is.marks ∙ are.wide;
  marked = λ line e. inl (are.clear line (subst (λ marks. IsMarked marks line) is.marks e));
  looked = λ k h. absurd (none_before k h);
}
  where
    first_small : (k : ℕ) → k < 1 → get_or (start ∷ []) k 0 < length links
    first_small zero h = small
    first_small (suc k) h = absurd (omega arith)

-- ---- a line is noted

abbrev pub Extends : List ℕ → List ℕ → Type 0
Extends lines more = (last : List ℕ) × (more ≡ lines ++ last)

-- the search once a target of the line at the head is noted
pub record IsNotedIn (links : Links) (start : ℕ) (old new : Search) (head target : ℕ) : Type 0 where
  pub search : IsSearch links start new head
  pub passed : IsPassed links new.lines.items target
  pub extends : Extends old.lines.items new.lines.items
  pub sum : extent new ≡ extent old

module _ (links : Links) (start : ℕ) (old : Search) (head : ℕ) (search : IsSearch links start old head) (here : head < length old.lines.items) (target : ℕ) (small : target < length links) (taken : IsLink links (get_or old.lines.items head 0) target) where
  module _ (new : Search) (finds : IsFound target head old new) where
    still_passed : (line : ℕ) → IsPassed links old.lines.items line → IsPassed links (old.lines.items ++ target ∷ []) line
    still_passed line p = elim p [ inl clear ↦ inl clear | inr i ↦ inr (listed_left line old.lines.items (target ∷ []) i) ]

    looked_more : (k : ℕ) → k < head → (t : ℕ) → IsLink links (get_or (old.lines.items ++ target ∷ []) k 0) t → IsLooked links start (old.lines.items ++ target ∷ []) t
    looked_more k h t i =
        let before = search.looked k h t (subst (λ x. IsLink links x t) (get_or_append_left old.lines.items (target ∷ []) 0 k (omega arith)) i) in
        (before.0, still_passed t before.1)

    marked_more : (line : ℕ) → IsMarked (set old.marks.items target true) line → IsPassed links (old.lines.items ++ target ∷ []) line
    marked_more line e = elim (ℕ_discrete line target) [
      | yes is ↦ inr (listed_right line old.lines.items (target ∷ []) (inl is))
      | no n ↦ still_passed line (search.marked line (sym (get_or-set_other old.marks.items target line true false n) ∙ e))
    ]

    within_more : (k : ℕ) → k < length (old.lines.items ++ target ∷ []) → get_or (old.lines.items ++ target ∷ []) k 0 < length links
    within_more k h = elim (split old.lines.items target k h) [
      | inl l ↦ subst (λ x. x < length links) (sym (kept old.lines.items target k l)) (search.within k l)
      | inr e ↦ subst (λ x. x < length links) (sym (last_is old.lines.items target k e)) small
    ]

    sum_same : IsUnmarked old.marks.items target → extent new ≡ extent old
    sum_same e =
        let fewer : unmarked (set old.marks.items target true) + 1 ≡ unmarked old.marks.items = unmarked_set old.marks.items target (subst (λ n. target < n) (sym search.wide) small) e in
        let l : length (old.lines.items ++ target ∷ []) ≡ length old.lines.items + 1 = longer old.lines.items target in
        ap (λ xs. unmarked new.marks.items + length xs) finds.lines ∙ ap (λ marks. unmarked marks + length (old.lines.items ++ target ∷ [])) finds.marks ∙ (omega arith)

    found_in : IsUnmarked old.marks.items target → IsNotedIn links start old new head target
    found_in e = record {
      search = record {
        trail = subst (λ xs. IsTrail links start xs new.led_by.items) (sym finds.lines) (subst (IsTrail links start (old.lines.items ++ target ∷ [])) (sym finds.led_by) (trail_more links start old.lines.items old.led_by.items search.trail target head here taken));
        within = subst (λ xs. (k : ℕ) → k < length xs → get_or xs k 0 < length links) (sym finds.lines) within_more;
        wide = ap length finds.marks ∙ length-set old.marks.items target true ∙ search.wide;
        marked = subst (λ xs. (line : ℕ) → IsMarked new.marks.items line → IsPassed links xs line) (sym finds.lines) (subst (λ marks. (line : ℕ) → IsMarked marks line → IsPassed links (old.lines.items ++ target ∷ []) line) (sym finds.marks) marked_more);
        looked = subst (λ xs. (k : ℕ) → k < head → (t : ℕ) → IsLink links (get_or xs k 0) t → IsLooked links start xs t) (sym finds.lines) looked_more;
      };
      passed = inr (subst (IsListed target) (sym finds.lines) (listed_right target old.lines.items (target ∷ []) (inl refl)));
      extends = (target ∷ [], finds.lines);
      sum = sum_same e;
    }

  known_in : IsMarked old.marks.items target → IsNotedIn links start old old head target
  known_in e = record {
    search = search;
    passed = search.marked target e;
    extends = ([], sym (append-nil old.lines.items));
    sum = refl;
  }

  pub noted_in : (new : Search) (b : Bool) → get_or old.marks.items target false ≡ b → IsNoted b target head old new → IsNotedIn links start old new head target
  noted_in new true e same = subst (λ s. IsNotedIn links start old s head target) (sym same) (known_in e)
  noted_in new false e found = found_in new found e

-- ---- the targets of the line at the head

extends_looked : (links : Links) (start : ℕ) (lines more : List ℕ) → Extends lines more → (t : ℕ) → IsLooked links start lines t → IsLooked links start more t
extends_looked links start lines more e t l = (l.0, elim l.1 [ inl clear ↦ inl clear | inr i ↦ inr (subst (IsListed t) (sym e.1) (listed_left t lines e.0 i)) ])

pub extends_kept : (lines more : List ℕ) → Extends lines more → (k : ℕ) → k < length lines → get_or more k 0 ≡ get_or lines k 0
extends_kept lines more e k h = ap (λ ys. get_or ys k 0) e.1 ∙ get_or_append_left lines e.0 0 k h

pub still_below : (lines more : List ℕ) → Extends lines more → (k : ℕ) → k < length lines → k < length more
still_below lines more e k h = let l : length more ≡ length lines + length e.0 = ap length e.1 ∙ length-append lines e.0 in omega arith

-- the first of the targets were looked at
pub record IsLookedTo (links : Links) (start : ℕ) (old new : Search) (head line : ℕ) (targets : List ℕ) (n : ℕ) : Type 0 where
  pub search : IsSearch links start new head
  pub within : head < length new.lines.items
  pub here : get_or new.lines.items head 0 ≡ line
  pub sum : extent new ≡ extent old
  pub looked : (k : ℕ) → k < n → IsLooked links start new.lines.items (get_or targets k 0)

pub target_small : (links : Links) (line : ℕ) (ts : List ℕ) (i : ℕ) → AreWithin links → ts ≡ targets_of links line → i < length ts → get_or ts i 0 < length links
target_small links line ts i within f h = within line _ (subst (IsListed (get_or ts i 0)) f (at_listed ts i h))

pub target_taken : (links : Links) (lines ts : List ℕ) (head line i : ℕ) → get_or lines head 0 ≡ line → ts ≡ targets_of links line → i < length ts → IsLink links (get_or lines head 0) (get_or ts i 0)
target_taken links lines ts head line i e f h = subst (λ l. IsLink links l (get_or ts i 0)) (sym e) (subst (IsListed (get_or ts i 0)) f (at_listed ts i h))

module _ (links : Links) (start : ℕ) (old mid : Search) (head line : ℕ) (targets : List ℕ) (n : ℕ) (to : IsLookedTo links start old mid head line targets n) (are : targets ≡ targets_of links line) where
  pub looked_next : (new : Search) → IsNotedIn links start mid new head (get_or targets n 0) → (get_or targets n 0 ≢ start) → IsLookedTo links start old new head line targets (n + 1)
  looked_next new notes apart = record {
    search = notes.search;
    within = still_below mid.lines.items new.lines.items notes.extends head to.within;
    here = extends_kept mid.lines.items new.lines.items notes.extends head to.within ∙ to.here;
    sum = notes.sum ∙ to.sum;
    looked = λ k h. elim (ℕ_discrete k n) [
      | yes is ↦ subst (λ j. IsLooked links start new.lines.items (get_or targets j 0)) (sym is) (apart, notes.passed)
      | no other ↦ extends_looked links start mid.lines.items new.lines.items notes.extends _ (to.looked k (omega arith))
    ];
  }

  all_looked : length targets ≤ n → (t : ℕ) → IsLink links (get_or mid.lines.items head 0) t → IsLooked links start mid.lines.items t
  all_looked over t i =
      let place = place_of targets t (subst (IsListed t) (sym are) (subst (λ l. IsLink links l t) to.here i)) in
      subst (IsLooked links start mid.lines.items) place.2 (to.looked place.0 (omega (arith, place.1)))

  pub looked_over : length targets ≤ n → IsOver links start old mid head
  looked_over over = record {
    search = record {
      trail = to.search.trail;
      within = to.search.within;
      wide = to.search.wide;
      marked = to.search.marked;
      looked = λ k h t i. elim (ℕ_discrete k head) [
        | yes e ↦ all_looked over t (subst (λ x. IsLink links (get_or mid.lines.items x 0) t) e i)
        | no other ↦ to.search.looked k (omega arith) t i
      ];
    };
    extent = to.sum;
  }

  pub closed : (n < length targets) → get_or targets n 0 ≡ start → IsClosed links start mid head
  closed h e = record {
    trail = to.search.trail;
    within = to.within;
    closes = subst (IsLink links (get_or mid.lines.items head 0)) e (target_taken links mid.lines.items targets head line n to.here are h);
  }

-- ---- at the end

module _ (links : Links) (start : ℕ) (s : Search) (head : ℕ) (search : IsSearch links start s head) (over : length s.lines.items ≤ head) where
  step : (x y : ℕ) → IsListed x s.lines.items → IsLink links x y → IsLooked links start s.lines.items y
  step x y i t = let place = place_of s.lines.items x i in search.looked place.0 (omega (arith, place.1)) y (subst (λ l. IsLink links l y) (sym place.2) t)

  -- a chain of lines on rings does not come back to the start
  ends : (x : ℕ) (xs : List ℕ) (end : ℕ) → Leads (IsLink links) (x ∷ xs) end → IsListed x s.lines.items → ((y : ℕ) → IsListed y xs → IsOnNoRing links y → ⊥) → end ≢ start
  ends x [] end leads i on = (step x end i leads).0
  ends x (y ∷ xs) end leads i on = ends y xs end leads.1 (elim (step x y i leads.0).1 [ inl clear ↦ absurd (on y (inl refl) clear) | inr j ↦ j ]) (λ z j. on z (inr j))

  start_found : IsListed start s.lines.items
  start_found = subst (λ x. IsListed x s.lines.items) search.trail.first (at_listed s.lines.items 0 search.trail.some)

  pub on_no_ring : IsOnNoRing links start
  on_no_ring ring is i =
      let round = turned (IsLink links) ring start is i in
      ends start round.0 start round.1 start_found (λ y j clear. clear (start ∷ round.0) round.1 (inr j)) refl

-- ---- the way back

-- the way from a place on, in reverse so far
abbrev pub IsWayFrom : List ℕ → List ℕ → ℕ → ℕ → List ℕ → Type 0
IsWayFrom lines led_by end place way = (links : Links) (start : ℕ) → IsTrail links start lines led_by → IsLink links (get_or lines end 0) start →
    (rest : List ℕ) × (reverse way ≡ get_or lines place 0 ∷ rest) × Leads (IsLink links) (get_or lines place 0 ∷ rest) start

pub earlier_within : (lines led_by : List ℕ) → IsLed lines led_by → (place : ℕ) → (place ≡ 0 → ⊥) → place < length lines → get_or led_by place 0 < length lines
earlier_within lines led_by led place not below = let less : get_or led_by place 0 < place = led.earlier place (omega arith) below in omega arith

pub step_back : (lines led_by : List ℕ) (end place : ℕ) → (place ≡ 0 → ⊥) → place < length lines → (way pushed : List ℕ) →
    pushed ≡ way ++ get_or lines (get_or led_by place 0) 0 ∷ [] → IsWayFrom lines led_by end place way → IsWayFrom lines led_by end (get_or led_by place 0) pushed
step_back lines led_by end place not below way pushed e from links start trail link =
    let path = from links start trail link in (
      get_or lines place 0 ∷ path.0,
      ap reverse e ∙ reverse_push way (get_or lines (get_or led_by place 0) 0) ∙ ap (λ xs. get_or lines (get_or led_by place 0) 0 ∷ xs) path.1,
      (trail.taken place (omega arith) below, path.2),
    )

begins : (start x : ℕ) (way rest : List ℕ) → way ≡ x ∷ rest → x ≡ start → BeginsWith start way
begins start x way rest e f = subst (BeginsWith start) (sym e) f

pub way_ends : (lines led_by : List ℕ) (end place : ℕ) (way : List ℕ) → place ≡ 0 → IsWayFrom lines led_by end place way → (links : Links) (start : ℕ) → IsTrail links start lines led_by → IsLink links (get_or lines end 0) start → IsRingFrom links start (reverse way)
way_ends lines led_by end place way e from links start trail link =
    let path = from links start trail link in
    let first : get_or lines place 0 ≡ start = ap (λ k. get_or lines k 0) e ∙ trail.first in (
      begins start _ (reverse way) path.0 path.1 first,
      subst (IsRing (IsLink links)) (sym path.1) (subst (Leads (IsLink links) (get_or lines place 0 ∷ path.0)) (sym first) path.2),
    )

-- the way to a line that takes the start
pub way_closed : (links : Links) (start : ℕ) (s : Search) (head : ℕ) (b : Bool) (Other : Type 0) → b ≡ true → MatchBool b (IsClosed links start s head) Other → (lines led_by : List ℕ) → lines ≡ s.lines.items → led_by ≡ s.led_by.items → (way : List ℕ) → IsWay lines led_by head way → IsRingFrom links start way
way_closed links start s head false Other t found lines led_by e f way is = absurd (cc)
way_closed links start s head true Other t found lines led_by e f way is =
    is links start (subst (λ xs. IsTrail links start xs led_by) (sym e) (subst (IsTrail links start s.lines.items) (sym f) found.trail)) (subst (λ xs. IsLink links (get_or xs head 0) start) (sym e) found.closes)
