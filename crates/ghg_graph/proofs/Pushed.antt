-- One item more in the list that a map has under a key.
use Rattle.std.proofs.Common.{◌≡◌, Bool, true, false, cond, if◌then◌else◌, List, [], ◌∷◌, ◌++◌, Option, Some, None, IsSome, Vec, Global, vec_len, rules, refl, sym, ap, ◌∙◌}
use Rattle.std.proofs.lemmas.List.{append-nil}
use Rattle.std.specs.Option.{UnwrapsOrElse, option_map_or}

pub some_is : {A : Type 0} (o : Option A) (x : A) → o ≡ Some x → IsSome o
some_is None x is = absurd (cc)
some_is (Some y) x is = search rules

-- the items, of which there are none where there is no list
abbrev pub items_in : {X : Type 0} → Option (Vec X Global) → List X
items_in {X} o = option_map_or (λ (v : Vec X Global). v.items) o []

-- those of a list that was made where there was none
pub items_are : {X : Type 0} (at : Option (Vec X Global)) (before : Vec X Global)
    → UnwrapsOrElse at (λ v. (v.items ≡ []) × (vec_len v ≡ 0)) before → before.items ≡ items_in at
items_are None before h = h.0
items_are {X} (Some v) before h = ap (λ (w : Vec X Global). w.items) h

pub item_pushed : {X : Type 0} (old new at : Option (Vec X Global)) (before now : Vec X Global) (b : Bool) (x : X)
    → new ≡ cond b (Some now) old → (b ≡ true → at ≡ old)
    → UnwrapsOrElse at (λ v. (v.items ≡ []) × (vec_len v ≡ 0)) before → now.items ≡ before.items ++ x ∷ []
    → items_in new ≡ items_in old ++ (if b then x ∷ [] else [])
item_pushed {X} old new at before now b x is same unwraps items = by b is same
  where
    by : (b : Bool) → new ≡ cond b (Some now) old → (b ≡ true → at ≡ old)
        → items_in new ≡ items_in old ++ (if b then x ∷ [] else [])
    by true is same = ap items_in is ∙ items ∙ ap (λ xs. xs ++ x ∷ []) (items_are at before unwraps ∙ ap items_in (same refl))
    by false is same = ap items_in is ∙ sym (append-nil (items_in old))
