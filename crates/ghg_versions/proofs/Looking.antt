-- Versions are looked up by their names.
use Rattle.std.proofs.Common.{◌≡◌, Bool, true, false, cond, List, [], ◌∷◌, map, ℕ, Option, Some, None, option_map, refl, ap, subst, ◌∙◌}
use Rattle.std.specs.List.{All, find}
use Rattle.std.specs.Str.{bytes_eq}
use Rattle.std.proofs.lemmas.List.Elements.{All-head, All-tail}
use Rattle.ghg_versions.specs.declared.version.KeptVersion.{KeptVersion}
use Rattle.ghg_versions.specs.Desk.{Version, seq_of}
use Rattle.ghg_versions.specs.Versions.{version_of}

find-map : {A B : Type 0} (p : B → Bool) (f : A → B) (xs : List A) → find p (map f xs) ≡ option_map f (find (λ x. p (f x)) xs)
find-map p f [] = refl
find-map p f (x ∷ xs) = by (p (f x)) (find-map p f xs)
  where
    by : (b : Bool) → find p (map f xs) ≡ option_map f (find (λ y. p (f y)) xs)
        → cond b (Some (f x)) (find p (map f xs)) ≡ option_map f (cond b (Some x) (find (λ y. p (f y)) xs))
    by true rest = refl
    by false rest = rest

-- what holds of each element holds of the one that is found
pub found : {A : Type 0} (P : A → Type 0) (p : A → Bool) (xs : List A) (x : A) → find p xs ≡ Some x → All P xs → P x
found P p [] x e all = absurd (cc)
found P p (y ∷ xs) x e all = by (p y) (found P p xs x) e
  where
    by : (b : Bool) → (find p xs ≡ Some x → All P xs → P x) → cond b (Some y) (find p xs) ≡ Some x → P x
    by true later e = let same : y ≡ x = cc in subst P same (All-head P y xs all)
    by false later e = later e (All-tail P y xs all)

-- the number of the version of a name
pub seq_named : (name : List ℕ) (vs : List KeptVersion) → seq_of name (map version_of vs) ≡ option_map (λ v. v.seq) (find (λ v. bytes_eq v.name name) vs)
seq_named name vs = ap (option_map (λ (v : Version). v.seq)) (find-map (λ (v : Version). bytes_eq v.name name) version_of vs) ∙ by (find (λ v. bytes_eq v.name name) vs)
  where
    by : (o : Option KeptVersion) → option_map (λ (v : Version). v.seq) (option_map version_of o) ≡ option_map (λ v. v.seq) o
    by None = refl
    by (Some v) = refl
