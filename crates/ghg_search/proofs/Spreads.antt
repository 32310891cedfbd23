-- From node to node.
use Rattle.std.proofs.Common.{◌≡◌, inl, inr, ℕ, ◌+◌, ◌<◌, ◌≤◌, List, [], ◌∷◌, length, take, Some, None, sym, ap, ◌∙◌, subst, arith, length-append}
use Rattle.std.proofs.lemmas.List.{take-append-le, take_all}
use Rattle.std.proofs.lemmas.Option.{get_or_from_slice_get, slice_get_within, slice_get_cases}
use Rattle.std.specs.List.{slice_get}
use Rattle.ghg_units.specs.declared.node.Node.{Node}
use Rattle.ghg_affected.specs.Affected.{EndsWith}
use Rattle.ghg_affected.proofs.Affected.{through}
use Rattle.ghg_definitions.specs.Data.{Data}
use Rattle.ghg_definitions.specs.Listed.{IsListed}
use Rattle.ghg_graph.proofs.EquationParameters.{at_place}
use Rattle.ghg_search.specs.Found.{AreAdded, AreQueued, IsIn, IsQueued}
use Rattle.ghg_search.specs.Search.{AreAffected, AreNodes, IsClosed, IsTaker, IsTakerOf}
use Rattle.ghg_search.specs.Series.{IsOf}
use Rattle.ghg_search.specs.declared.found.Found.{Found}
use Rattle.ghg_search.specs.declared.found.Group.{Group}
use Rattle.ghg_search.proofs.Sources.{listed_next}

-- the takers of the first ones of the queue are found
pub record IsSpread (m : Data) (first : Found) (next : ℕ) (f : Found) : Type 0 where
  pub queued : AreQueued f
  pub nodes : AreNodes m f
  pub kept : (n : Node) → IsIn first n → IsIn f n
  pub affected : (old : Data) → AreAffected old m first → AreAffected old m f
  pub within : next ≤ length f.queue.items
  pub done : (k n : Node) (group : Group) → IsListed group (take next f.queue.items) → IsOf group.series group.years k
      → IsTaker m k n → IsIn f n

pub next_queued : (f : Found) (next : ℕ) (group : Group) → slice_get f.queue.items next ≡ Some group
    → (n : Node) → IsOf group.series group.years n → IsQueued f n
next_queued f next group e n of = (
  group,
  subst (λ x. IsListed x f.queue.items) (get_or_from_slice_get f.queue.items next group group e)
      (at_place f.queue.items next group (slice_get_within f.queue.items next group e)),
  of,
)

module _ (m : Data) (first f g : Found) (next : ℕ) (group : Group) (s : IsSpread m first next f)
    (at : slice_get f.queue.items next ≡ Some group) (added : AreAdded (IsTakerOf m group.series group.years) f g)
    (found : (n : Node) → IsTakerOf m group.series group.years n → IsIn g n) where
  inside : next < length f.queue.items
  inside = slice_get_within f.queue.items next group at

  front : take (next + 1) g.queue.items ≡ take (next + 1) f.queue.items
  front = ap (take (next + 1)) added.behind.1 ∙ take-append-le (next + 1) f.queue.items added.behind.0 (omega (arith, inside))

  pub spread_more : IsSpread m first (next + 1) g
  spread_more = record {
    queued = added.queued s.queued;
    nodes = λ n i. elim (added.only n i) [ inl on ↦ s.nodes n on | inr t ↦ t.2.node ];
    kept = λ n is. added.kept n (s.kept n is);
    affected = λ old are n i. elim (added.only n i) [
      | inl on ↦ s.affected old are n on
      | inr t ↦ through old m t.0 n (s.affected old are t.0 (next_queued f next group at t.0 t.1)) t.2
    ];
    within =
        let longer : length g.queue.items ≡ length f.queue.items + length added.behind.0 =
        ap length added.behind.1 ∙ length-append f.queue.items added.behind.0 in
        omega (arith, longer, inside);
    done = λ j n q i of t. elim (listed_next f.queue.items next group inside (sym (get_or_from_slice_get f.queue.items next group group at)) q
        (subst (IsListed q) front i)) [
          | inl before ↦ added.kept n (s.done j n q before of t)
          | inr same ↦ found n (j, subst (λ (x : Group). IsOf x.series x.years j) same of, t)
        ];
  }

pub spread_all : (m : Data) (first f : Found) (next : ℕ) → IsSpread m first next f → slice_get f.queue.items next ≡ None
    → IsClosed m f
spread_all m first f next s none k n is t = elim (slice_get_cases f.queue.items next).1 [
  | inl more ↦ absurd (clash more.0 (sym more.2 ∙ none))
  | inr past ↦ let q = s.queued k is in
      s.done k n q.0 (subst (IsListed q.0) (sym (take_all next f.queue.items past.0)) q.1) q.2 t
]
  where
    clash : (x : Group) → Some x ≡ None → ⊥
    clash x e = cc

-- what is led to from a found node is found
pub all_found : (m : Data) (f : Found) → IsClosed m f → (k : Node) (ks : List Node) (n : Node) → IsIn f k
    → EndsWith m (k ∷ ks) n → IsIn f n
all_found m f closed k [] n is h = subst (IsIn f) h is
all_found m f closed k (j ∷ ks) n is h = all_found m f closed j ks n (closed k j is h.0) h.1
