-- Links that are served one after the other.
use Rattle.std.proofs.Common.{◌≡◌, ◌∙◌, inl, ℕ, ◌+◌, ◌<◌, ◌≤◌, Bool, List, [], ◌∷◌, ◌++◌, length, map, option_map, Option, Some, None, IfSome, append-nil, add-zero, add_assoc, append_assoc, length-append, refl, sym, ap, subst, arith}
use Rattle.std.specs.Option.{is_some}
use Rattle.std.proofs.lemmas.List.{map-append}
use Rattle.ghg_outer.specs.Doors.{GivesLink, IsKept, Opens, Register, TakesBack}
use Rattle.ghg_outer.specs.Tape.{Tape}
use Rattle.ghg_words.specs.declared.command.Service.{Service}
use Rattle.ghg_words.specs.declared.status.Status.{Status}
use Rattle.ghg_words.specs.declared.status.Status.TheVariants.{OutOfMemory}
use Rattle.ghg_run.specs.Serve.{EndsServing, IsServing, OfficeAt, ServedLink, Serves, ServesNew, register_of}

-- what a serving acts on: the office, and what the door tells
pub record Station : Type 0 where
  pub office : OfficeAt
  pub door : Register Tape

abbrev pub station : OfficeAt → Register Tape → Station
station office door = record { office = office; door = door }

-- ---- what a door tells, with each link by what that tells

-- the same port, so many links given, and these finished
pub record Tells (before after : Register Tape) (given : Option ℕ) (finished : Option (List Tape)) : Type 0 where
  pub port_is : after.port ≡ before.port
  pub given_is : after.given ≡ given
  pub finished_is : after.finished ≡ finished

module _ {Link : Type 0} (tape : Link → Tape) (a b : Register Link) where
  pub tells_same : IsKept a b → Tells (register_of tape a) (register_of tape b) (register_of tape a).given (register_of tape a).finished
  tells_same e = record {
    port_is = ap (λ (r : Register Link). r.port) e;
    given_is = ap (λ (r : Register Link). r.given) e;
    finished_is = ap (λ (r : Register Link). option_map (map tape) r.finished) e;
  }

  pub tells_opened : (port : ℕ) → Opens a b port
      → ((register_of tape b).given ≡ (register_of tape a).given) × ((register_of tape b).finished ≡ (register_of tape a).finished)
  tells_opened port opened = (
    ap (λ (r : Register Link). r.given) opened.rest,
    ap (λ (r : Register Link). option_map (map tape) r.finished) opened.rest,
  )

  pub tells_given : GivesLink a b
      → Tells (register_of tape a) (register_of tape b) (option_map (λ n. n + 1) a.given) (register_of tape a).finished
  tells_given e = record {
    port_is = ap (λ (r : Register Link). r.port) e;
    given_is = ap (λ (r : Register Link). r.given) e;
    finished_is = ap (λ (r : Register Link). option_map (map tape) r.finished) e;
  }

  pub tells_taken : (link : Link) → TakesBack a b link
      → Tells (register_of tape a) (register_of tape b) a.given
      (option_map (λ links. links ++ tape link ∷ []) (register_of tape a).finished)
  tells_taken link e = record {
    port_is = ap (λ (r : Register Link). r.port) e;
    given_is = ap (λ (r : Register Link). r.given) e;
    finished_is = ap (λ (r : Register Link). option_map (map tape) r.finished) e ∙ mapped a.finished;
  }
    where
      mapped : (finished : Option (List Link))
          → option_map (map tape) (option_map (λ links. links ++ link ∷ []) finished)
          ≡ option_map (λ links. links ++ tape link ∷ []) (option_map (map tape) finished)
      mapped None = refl
      mapped (Some links) = ap Some (map-append tape links (link ∷ []))

-- ---- lists that grow

nothing_more : (o : Option ℕ) → option_map (λ n. n + 0) o ≡ o
nothing_more None = refl
nothing_more (Some n) = ap Some (add-zero n)

no_link_more : (o : Option (List Tape)) → option_map (λ links. links ++ []) o ≡ o
no_link_more None = refl
no_link_more (Some links) = ap Some (append-nil links)

counted_more : (k m : ℕ) (o : Option ℕ) → option_map (λ n. n + m) (option_map (λ n. n + k) o) ≡ option_map (λ n. n + (k + m)) o
counted_more k m None = refl
counted_more k m (Some n) = ap Some (add_assoc n k m)

links_more : (xs ys : List Tape) (o : Option (List Tape))
    → option_map (λ links. links ++ ys) (option_map (λ links. links ++ xs) o) ≡ option_map (λ links. links ++ (xs ++ ys)) o
links_more xs ys None = refl
links_more xs ys (Some links) = ap Some (append_assoc links xs ys)

-- ---- a serving

pub serving_more : (stored : Bool) (a b c : OfficeAt) (links : List ServedLink) (one : ServedLink) → IsServing stored a links b
    → ServesNew stored b one c → IsServing stored a (links ++ one ∷ []) c
serving_more stored a b c [] one e s = (c, subst (λ (o : OfficeAt). ServesNew stored o one c) e s, refl)
serving_more stored a b c (first ∷ links) one all s = (all.0, all.1, serving_more stored all.0 b c links one all.2 s)

-- what was done so far, where submissions are stored or not
pub record ServedSoFar (stored : Bool) (before after : Station) (number : ℕ) : Type 0 where
  pub links : List ServedLink
  pub number_is : length links ≡ number
  pub serving : IsServing stored before.office links after.office
  pub finished : after.door.finished ≡ option_map (λ all. all ++ map (λ (s : ServedLink). s.link) links) before.door.finished
  pub given : after.door.given ≡ option_map (λ n. n + length links) before.door.given

pub none_served : (stored : Bool) (a b : Station) → b.office ≡ a.office → b.door.given ≡ a.door.given
    → b.door.finished ≡ a.door.finished → ServedSoFar stored a b 0
none_served stored a b office given finished = record {
  links = [];
  number_is = refl;
  serving = office;
  finished = finished ∙ sym (no_link_more a.door.finished);
  given = given ∙ sym (nothing_more a.door.given);
}

-- nothing was done since
pub served_same : (stored : Bool) (a b c : Station) (number : ℕ) → ServedSoFar stored a b number → c.office ≡ b.office
    → c.door.given ≡ b.door.given → c.door.finished ≡ b.door.finished → ServedSoFar stored a c number
served_same stored a b c number so_far office given finished = record {
  links = so_far.links;
  number_is = so_far.number_is;
  serving = subst (IsServing stored a.office so_far.links) (sym office) so_far.serving;
  finished = finished ∙ so_far.finished;
  given = given ∙ so_far.given;
}

module _ (stored : Bool) (a b c : Station) (number : ℕ) (one : ServedLink) (so_far : ServedSoFar stored a b number)
    (s : ServesNew stored b.office one c.office) (given : c.door.given ≡ option_map (λ n. n + 1) b.door.given) where
  given_more : c.door.given ≡ option_map (λ n. n + length (so_far.links ++ one ∷ [])) a.door.given
  given_more = rw length-append (given ∙ ap (option_map (λ n. n + 1)) so_far.given ∙ counted_more (length so_far.links) 1 a.door.given)

  pub one_more : c.door.finished ≡ option_map (λ links. links ++ one.link ∷ []) b.door.finished → ServedSoFar stored a c (number + 1)
  one_more finished = record {
    links = so_far.links ++ one ∷ [];
    number_is = length-append so_far.links (one ∷ []) ∙ ap (λ n. n + 1) so_far.number_is;
    serving = serving_more stored a.office b.office c.office so_far.links one so_far.serving s;
    finished = rw map-append (finished ∙ ap (option_map (λ links. links ++ one.link ∷ [])) so_far.finished
        ∙ links_more (map (λ (s : ServedLink). s.link) so_far.links) (one.link ∷ []) a.door.finished);
    given = given_more;
  }

  -- the link could not be taken back
  pub serving_drops : (service : Service) → stored ≡ is_some service.settings.store → c.door.finished ≡ b.door.finished
      → number < service.connections → Serves service a.office c.office a.door c.door OutOfMemory
  serving_drops service store finished fewer = record {
    taken = so_far.links;
    dropped = one ∷ [];
    serving = subst (λ kept. IsServing kept a.office (so_far.links ++ one ∷ []) c.office) store
        (serving_more stored a.office b.office c.office so_far.links one so_far.serving s);
    finished = finished ∙ so_far.finished;
    given = given_more;
    ends = (omega (arith, fewer, so_far.number_is), inl refl);
  }

pub serving_ends : (stored : Bool) (service : Service) (a b : Station) (number : ℕ) (status : Status) → ServedSoFar stored a b number
    → stored ≡ is_some service.settings.store
    → ((links : List ServedLink) → length links ≡ number → EndsServing service b.door.port links [] status)
    → Serves service a.office b.office a.door b.door status
serving_ends stored service a b number status so_far store ends =
    let same : so_far.links ++ [] ≡ so_far.links = append-nil so_far.links in
    record {
      taken = so_far.links;
      dropped = [];
      serving = rw same (subst (λ kept. IsServing kept a.office so_far.links b.office) store so_far.serving);
      finished = so_far.finished;
      given = rw same so_far.given;
      ends = ends so_far.links so_far.number_is;
    }

pub port_stays : (port : ℕ) (before after : Option ℕ) → after ≡ before → IfSome before (λ p. p ≡ port) → IfSome after (λ p. p ≡ port)
port_stays port before after e h = subst (λ (o : Option ℕ). IfSome o (λ p. p ≡ port)) (sym e) h
