-- What each step of a walk keeps, and what it comes to.
use Rattle.std.proofs.Common.{◌≡◌, ◌⊎◌, ℕ, ◌+◌, ◌<◌, ◌≤◌, Bool, true, false, List, [], ◌∷◌, ◌++◌, length, get_or, set, reverse, Contains, length-append, length-set, get_or-set_same, get_or-set_other, refl, sym, ap, ◌∙◌, subst, inl, inr, arith}
use Rattle.std.proofs.lemmas.List.{get_or_past}
use native.Mathlib.Decide.{ℕ_discrete}
use Prim.{yes, no}
use Rattle.ghg_definitions.proofs.Depth.{or_else}
use Rattle.ghg_definitions.specs.Listed.{IsListed}
use Rattle.ghg_definitions.proofs.Listed.{contained}
use Rattle.ghg_graph.specs.declared.walk.Walk.{Walk}
use Rattle.ghg_graph.specs.Links.{AreWithin, IsLink, IsOrder, IsPlaced, Links, targets_of}
use Rattle.ghg_graph.specs.Stops.{AreClear}
use Rattle.ghg_graph.specs.Walks.{IsFirstUnmarked, IsMarked, IsOpened, IsPut, IsTakenByFirst, IsTried, IsTurned, IsUnmarked, IsWalk, Keeps, unmarked}
use Rattle.ghg_graph.proofs.Ordered.{off_rings}
use Rattle.ghg_graph.proofs.Marks.{at_listed, both_marks, from_reverse, marked_within, place_of, reverse_push, set_keeps, set_marked, unmarked_set}

none_below : (j : ℕ) → j < 0 → ⊥
none_below j h = omega arith

below_or_not : (i n : ℕ) → (i < n) ⊎ (n ≤ i)
below_or_not i n = grind arith

-- ---- a line is opened

module _ (links : Links) (old new : Walk) (path : List ℕ) (walk : IsWalk links old path) (line : ℕ) (small : line < length links) (opens : IsOpened line old new) (fresh : IsUnmarked old.opened.items line) (taken : IsTakenByFirst links line path) where
  opened_fits : line < length old.opened.items
  opened_fits = subst (λ n. line < n) (sym walk.opened_wide) small

  not_placed : IsUnmarked old.placed.items line
  not_placed = elim (or_else (get_or old.placed.items line false)) [ inl e ↦ absurd (both_marks (walk.placed_opened line e) fresh) | inr e ↦ e ]

  still_opened : Keeps old.opened.items new.opened.items
  still_opened k e = subst (λ marks. IsMarked marks k) (sym opens.opened) (set_keeps old.opened.items line opened_fits k e)

  same_placed : (P : List Bool → Type 0) → P old.placed.items → P new.placed.items
  same_placed P h = subst P (sym opens.placed) h

  pub opened_walk : IsWalk links new (line ∷ path)
  opened_walk = record {
    order = subst (λ xs. IsPlaced links (reverse xs)) (sym opens.order) walk.order;
    on_path = (λ i. both_marks (walk.path_opened line i).0 fresh, taken, walk.on_path);
    opened_wide = ap length opens.opened ∙ length-set old.opened.items line true ∙ walk.opened_wide;
    placed_wide = ap length opens.placed ∙ walk.placed_wide;
    tried_wide = ap length opens.tried ∙ walk.tried_wide;
    marked = λ k e. subst (λ xs. IsListed k (reverse xs)) (sym opens.order) (walk.marked k (subst (λ marks. IsMarked marks k) opens.placed e));
    all_marked = λ k i. same_placed (λ marks. IsMarked marks k) (walk.all_marked k (subst (λ xs. IsListed k (reverse xs)) opens.order i));
    path_opened = λ k i. elim i [
      | inl is ↦ (
        subst (λ marks. IsMarked marks k) (sym opens.opened) (subst (IsMarked (set old.opened.items line true)) (sym is) (set_marked old.opened.items line opened_fits)),
        same_placed (λ marks. IsUnmarked marks k) (subst (IsUnmarked old.placed.items) (sym is) not_placed),
      )
      | inr j ↦ (still_opened k (walk.path_opened k j).0, same_placed (λ marks. IsUnmarked marks k) (walk.path_opened k j).1)
    ];
    opened_path = λ k e f. elim (ℕ_discrete k line) [
      | yes is ↦ inl is
      | no n ↦ inr (walk.opened_path k (sym (get_or-set_other old.opened.items line k true false n) ∙ subst (λ marks. IsMarked marks k) opens.opened e) (subst (λ marks. IsUnmarked marks k) opens.placed f))
    ];
    placed_opened = λ k e. still_opened k (walk.placed_opened k (subst (λ marks. IsMarked marks k) opens.placed e));
    tried = λ k j h. same_placed (λ marks. IsMarked marks (get_or (targets_of links k) j 0)) (walk.tried k j (subst (λ xs. j < get_or xs k 0) opens.tried h));
  }

  pub fewer_unopened : unmarked new.opened.items + 1 ≡ unmarked old.opened.items
  fewer_unopened = ap (λ marks. unmarked marks + 1) opens.opened ∙ unmarked_set old.opened.items line opened_fits fresh

  pub opened_keeps : Keeps old.opened.items new.opened.items
  opened_keeps = still_opened

-- ---- a line is placed

module _ (links : Links) (old new : Walk) (path : List ℕ) (line : ℕ) (walk : IsWalk links old (line ∷ path)) (puts : IsPut line old new) (behind : (target : ℕ) → IsLink links line target → IsMarked old.placed.items target) where
  on_it : IsMarked old.opened.items line × IsUnmarked old.placed.items line
  on_it = walk.path_opened line (inl refl)

  placed_fits : line < length old.placed.items
  placed_fits =
      let fits : line < length old.opened.items = marked_within old.opened.items line on_it.0 in
      let wide : length old.opened.items ≡ length links = walk.opened_wide in
      let same : length old.placed.items ≡ length links = walk.placed_wide in
      omega arith

  still_placed : Keeps old.placed.items new.placed.items
  still_placed k e = subst (λ marks. IsMarked marks k) (sym puts.placed) (set_keeps old.placed.items line placed_fits k e)

  itself : IsMarked new.placed.items line
  itself = subst (λ marks. IsMarked marks line) (sym puts.placed) (set_marked old.placed.items line placed_fits)

  order_more : reverse new.order.items ≡ line ∷ reverse old.order.items
  order_more = ap reverse puts.order ∙ reverse_push old.order.items line

  others_same : (k : ℕ) → (k ≡ line → ⊥) → get_or new.placed.items k false ≡ get_or old.placed.items k false
  others_same k n = ap (λ marks. get_or marks k false) puts.placed ∙ get_or-set_other old.placed.items line k true false n

  pub put_walk : IsWalk links new path
  put_walk = record {
    order = subst (IsPlaced links) (sym order_more) (λ i. both_marks (walk.all_marked line i) on_it.1, λ target i. walk.marked target (behind target i), walk.order);
    on_path = walk.on_path.2;
    opened_wide = ap length puts.opened ∙ walk.opened_wide;
    placed_wide = ap length puts.placed ∙ length-set old.placed.items line true ∙ walk.placed_wide;
    tried_wide = ap length puts.tried ∙ walk.tried_wide;
    marked = λ k e. subst (IsListed k) (sym order_more) (elim (ℕ_discrete k line) [
      | yes is ↦ inl is
      | no n ↦ inr (walk.marked k (sym (others_same k n) ∙ e))
    ]);
    all_marked = λ k i. elim (subst (IsListed k) order_more i) [
      | inl is ↦ subst (IsMarked new.placed.items) (sym is) itself
      | inr j ↦ still_placed k (walk.all_marked k j)
    ];
    path_opened = λ k i. (
      subst (λ marks. IsMarked marks k) (sym puts.opened) (walk.path_opened k (inr i)).0,
      others_same k (λ is. walk.on_path.0 (subst (λ j. IsListed j path) is i)) ∙ (walk.path_opened k (inr i)).1,
    );
    opened_path = λ k e f. elim (ℕ_discrete k line) [
      | yes is ↦ absurd (both_marks (subst (IsMarked new.placed.items) (sym is) itself) f)
      | no n ↦ elim (walk.opened_path k (subst (λ marks. IsMarked marks k) puts.opened e) (sym (others_same k n) ∙ f)) [ inl is ↦ absurd (n is) | inr j ↦ j ]
    ];
    placed_opened = λ k e. subst (λ marks. IsMarked marks k) (sym puts.opened) (elim (ℕ_discrete k line) [
      | yes is ↦ subst (IsMarked old.opened.items) (sym is) on_it.0
      | no n ↦ walk.placed_opened k (sym (others_same k n) ∙ e)
    ]);
    tried = λ k j h. still_placed _ (walk.tried k j (subst (λ xs. j < get_or xs k 0) puts.tried h));
  }

  pub put_keeps : Keeps old.placed.items new.placed.items
  put_keeps = still_placed

-- ---- nothing is opened or placed

module _ (links : Links) (old new : Walk) (path : List ℕ) (walk : IsWalk links old path) (order : new.order.items ≡ old.order.items) (opened : new.opened.items ≡ old.opened.items) (placed : new.placed.items ≡ old.placed.items) where
  other_walk : length new.tried.items ≡ length links → ((line k : ℕ) → k < get_or new.tried.items line 0 → IsMarked old.placed.items (get_or (targets_of links line) k 0)) → IsWalk links new path
  other_walk wide tried = record {
    order = subst (λ xs. IsPlaced links (reverse xs)) (sym order) walk.order;
    on_path = walk.on_path;
    opened_wide = ap length opened ∙ walk.opened_wide;
    placed_wide = ap length placed ∙ walk.placed_wide;
    tried_wide = wide;
    marked = λ k e. subst (λ xs. IsListed k (reverse xs)) (sym order) (walk.marked k (subst (λ marks. IsMarked marks k) placed e));
    all_marked = λ k i. subst (λ marks. IsMarked marks k) (sym placed) (walk.all_marked k (subst (λ xs. IsListed k (reverse xs)) order i));
    path_opened = λ k i. (subst (λ marks. IsMarked marks k) (sym opened) (walk.path_opened k i).0, subst (λ marks. IsUnmarked marks k) (sym placed) (walk.path_opened k i).1);
    opened_path = λ k e f. walk.opened_path k (subst (λ marks. IsMarked marks k) opened e) (subst (λ marks. IsUnmarked marks k) placed f);
    placed_opened = λ k e. subst (λ marks. IsMarked marks k) (sym opened) (walk.placed_opened k (subst (λ marks. IsMarked marks k) placed e));
    tried = λ line k h. subst (λ marks. IsMarked marks (get_or (targets_of links line) k 0)) (sym placed) (tried line k h);
  }

  -- only the path is another
  pub same_walk : new.tried.items ≡ old.tried.items → IsWalk links new path
  same_walk same = other_walk (ap length same ∙ walk.tried_wide) (λ line k h. walk.tried line k (subst (λ xs. k < get_or xs line 0) same h))

  module _ (line next : ℕ) (moved : new.tried.items ≡ set old.tried.items line next) (before : (k : ℕ) → k < next → IsMarked old.placed.items (get_or (targets_of links line) k 0)) where
    tried_on : (k j : ℕ) → j < get_or (set old.tried.items line next) k 0 → IsMarked old.placed.items (get_or (targets_of links k) j 0)
    tried_on k j h = elim (ℕ_discrete k line) [
      | no n ↦ walk.tried k j (subst (λ x. j < x) (get_or-set_other old.tried.items line k next 0 n) h)
      | yes is ↦ elim (below_or_not line (length old.tried.items)) [
        | inl fits ↦ subst (λ i. IsMarked old.placed.items (get_or (targets_of links i) j 0)) (sym is) (before j (subst (λ x. j < x) (ap (λ i. get_or (set old.tried.items line next) i 0) is ∙ get_or-set_same old.tried.items line next 0 fits) h))
        | inr past ↦ absurd (none_below j (subst (λ x. j < x) (get_or_past (set old.tried.items line next) k 0 (subst (λ i. length (set old.tried.items line next) ≤ i) (sym is) (subst (λ n. n ≤ line) (sym (length-set old.tried.items line next)) past))) h))
      ]
    ]

    pub tried_walk : IsWalk links new path
    tried_walk = other_walk (ap length moved ∙ length-set old.tried.items line next ∙ walk.tried_wide) (λ k j h. tried_on k j (subst (λ xs. j < get_or xs k 0) moved h))

-- ---- the next target of a line

pub first_within : (links : Links) (w : Walk) (line : ℕ) (path : List ℕ) → IsWalk links w (line ∷ path) → line < length links
first_within links w line path walk = subst (λ n. line < n) walk.opened_wide (marked_within w.opened.items line (walk.path_opened line (inl refl)).0)

-- the targets before the first that is not placed from where the line was tried to
pub before_first : (links : Links) (w : Walk) (path : List ℕ) (walk : IsWalk links w path) (line next from : ℕ) (marks : List Bool) (targets : List ℕ) → from ≡ get_or w.tried.items line 0 → marks ≡ w.placed.items → targets ≡ targets_of links line →
    IsFirstUnmarked marks targets from next → (k : ℕ) → k < next → IsMarked w.placed.items (get_or (targets_of links line) k 0)
before_first links w path walk line next from marks targets g e f first k h = elim (below_or_not k from) [
  | inl l ↦ walk.tried line k (subst (λ n. k < n) g l)
  | inr over ↦ subst (λ ms. IsMarked ms (get_or (targets_of links line) k 0)) e (subst (λ ts. IsMarked marks (get_or ts k 0)) f (first.before k over h))
]

-- all targets, where none is left that is not placed
pub all_targets : (links : Links) (w : Walk) (path : List ℕ) (walk : IsWalk links w path) (line from : ℕ) (marks : List Bool) (targets : List ℕ) → from ≡ get_or w.tried.items line 0 → marks ≡ w.placed.items → targets ≡ targets_of links line →
    ((k : ℕ) → from ≤ k → k < length targets → IsMarked marks (get_or targets k 0)) → (target : ℕ) → IsLink links line target → IsMarked w.placed.items target
all_targets links w path walk line from marks targets g e f rest target i =
    let place = place_of (targets_of links line) target i in
    subst (IsMarked w.placed.items) place.2 (elim (below_or_not place.0 from) [
      | inl l ↦ walk.tried line place.0 (subst (λ n. place.0 < n) g l)
      | inr over ↦ subst (λ ms. IsMarked ms (get_or (targets_of links line) place.0 0)) e (subst (λ ts. IsMarked marks (get_or ts place.0 0)) f (rest place.0 over (subst (λ ts. place.0 < length ts) (sym f) place.1)))
    ])

-- each target has a mark
pub targets_within : (links : Links) (line : ℕ) (marks : List Bool) (targets : List ℕ) → AreWithin links → length marks ≡ length links → targets ≡ targets_of links line → (k : ℕ) → k < length targets → get_or targets k 0 < length marks
targets_within links line marks targets within wide f k h = subst (λ n. get_or targets k 0 < n) (sym wide) (within line _ (subst (IsListed (get_or targets k 0)) f (at_listed targets k h)))

-- a target that was found
pub target_found : (links : Links) (w : Walk) (line next from : ℕ) (marks : List Bool) (targets : List ℕ) → AreWithin links → marks ≡ w.placed.items → targets ≡ targets_of links line →
    IsFirstUnmarked marks targets from next → (get_or targets next 0 < length links) × IsLink links line (get_or targets next 0) × IsUnmarked w.placed.items (get_or targets next 0)
target_found links w line next from marks targets within e f first =
    let link : IsLink links line (get_or targets next 0) = subst (IsListed (get_or targets next 0)) f (at_listed targets next first.within) in
    (within line _ link, link, subst (λ ms. IsUnmarked ms (get_or targets next 0)) e first.unmarked)

-- ---- a turn

pub turned_put : (links : Links) (old mid new : Walk) (line : ℕ) → IsTried old mid → IsWalk links mid (line ∷ reverse old.path.items) → ((target : ℕ) → IsLink links line target → IsMarked old.placed.items target) → IsPut line mid new → IsTurned links old new
turned_put links old mid new line tries walk behind puts =
    let all : (target : ℕ) → IsLink links line target → IsMarked mid.placed.items target = λ target i. subst (λ marks. IsMarked marks target) (sym tries.placed) (behind target i) in
    record {
      walk = subst (λ xs. IsWalk links new (reverse xs)) (sym (puts.path ∙ tries.path)) (put_walk links mid new (reverse old.path.items) line walk puts all);
      opened = λ k e. subst (λ marks. IsMarked marks k) (sym (puts.opened ∙ tries.opened)) e;
      placed = λ k e. put_keeps links mid new (reverse old.path.items) line walk puts all k (subst (λ marks. IsMarked marks k) (sym tries.placed) e);
      less = same_work _ _ (ap unmarked (puts.opened ∙ tries.opened)) _ _ (ap length (puts.path ∙ tries.path));
    }
  where
    same_work : (u v : ℕ) → u ≡ v → (p q : ℕ) → p ≡ q → u + u + p ≤ v + v + q
    same_work u v e p q f = omega arith

-- the line is put back on the path
pub back_walk : (links : Links) (old mid new : Walk) (line : ℕ) → IsWalk links mid (line ∷ reverse old.path.items) → mid.path.items ≡ old.path.items → new.order.items ≡ mid.order.items → new.opened.items ≡ mid.opened.items → new.placed.items ≡ mid.placed.items → new.tried.items ≡ mid.tried.items → new.path.items ≡ mid.path.items ++ line ∷ [] → IsWalk links new (reverse new.path.items)
back_walk links old mid new line walk same order opened placed tried path =
    subst (IsWalk links new) (sym (ap reverse (path ∙ ap (λ xs. xs ++ line ∷ []) same) ∙ reverse_push old.path.items line)) (same_walk links mid new (line ∷ reverse old.path.items) walk order opened placed tried)

-- a target that is opened and not placed is on the path
pub target_back : (links : Links) (w : Walk) (path : List ℕ) (line target : ℕ) → IsWalk links w (line ∷ reverse path) → IsMarked w.opened.items target → IsUnmarked w.placed.items target → (lines : List ℕ) → lines ≡ path ++ line ∷ [] → Contains lines target
target_back links w path line target walk e f lines is = contained lines target (from_reverse target lines (subst (IsListed target) (sym (ap reverse is ∙ reverse_push path line)) (walk.opened_path target e f)))

pub turned_on : (links : Links) (old back new : Walk) (line target : ℕ) → IsWalk links back (reverse back.path.items) → back.path.items ≡ old.path.items ++ line ∷ [] → back.opened.items ≡ old.opened.items → back.placed.items ≡ old.placed.items → target < length links → IsLink links line target → IsUnmarked back.opened.items target → IsOpened target back new → IsTurned links old new
turned_on links old back new line target walk path opened placed small link fresh opens =
    let first : reverse back.path.items ≡ line ∷ reverse old.path.items = ap reverse path ∙ reverse_push old.path.items line in
    let taken : IsTakenByFirst links target (reverse back.path.items) = subst (IsTakenByFirst links target) (sym first) link in
    let fewer : unmarked new.opened.items + 1 ≡ unmarked back.opened.items = fewer_unopened links back new (reverse back.path.items) walk target small opens fresh taken in
    record {
      walk = subst (IsWalk links new) (sym (ap reverse opens.path ∙ reverse_push back.path.items target)) (opened_walk links back new (reverse back.path.items) walk target small opens fresh taken);
      opened = λ k e. opened_keeps links back new (reverse back.path.items) walk target small opens fresh taken k (subst (λ marks. IsMarked marks k) (sym opened) e);
      placed = λ k e. subst (λ marks. IsMarked marks k) (sym (opens.placed ∙ placed)) e;
      less = less_work _ _ (fewer ∙ ap unmarked opened) _ _ (ap length opens.path ∙ length-append back.path.items (target ∷ []) ∙ ap (λ n. n + 1) (ap length path ∙ length-append old.path.items (line ∷ [])));
    }
  where
    less_work : (u v : ℕ) → u + 1 ≡ v → (p q : ℕ) → p ≡ q + 1 + 1 → u + u + p ≤ v + v + q
    less_work u v e p q f = omega arith

-- ---- when it stops

pub clear_marks : (links : Links) (w : Walk) (path : List ℕ) → IsWalk links w path → (marks : List Bool) → marks ≡ w.placed.items → AreClear links marks
clear_marks links w path walk marks e = record {
  wide = ap length e ∙ walk.placed_wide;
  clear = λ line mark ring is on. off_rings links ring is (reverse w.order.items) walk.order line (walk.marked line (subst (λ ms. IsMarked ms line) e mark)) on;
}

-- ---- at the end

pub walked_order : (links : Links) (w : Walk) (n : ℕ) → IsWalk links w [] → length links ≤ n → ((k : ℕ) → k < n → IsMarked w.placed.items k) → IsOrder links w.order.items
walked_order links w n walk over all = record {
  placed = walk.order;
  within = λ line i. subst (λ n. line < n) walk.placed_wide (marked_within w.placed.items line (walk.all_marked line i));
  complete = λ line h. walk.marked line (all line (omega arith));
}
