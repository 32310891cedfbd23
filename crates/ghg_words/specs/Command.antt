-- The command that the words after the program's name ask for.
use Rattle.std.specs.Prelude.{⊤, ℕ, ◌≤◌, List, [], ◌∷◌, if◌then◌else◌, Option, Some, None, option_map, option_and_then, codes}
use Rattle.std.specs.Str.{bytes_eq}
use Rattle.ghg_splice.specs.Texts.{method_named}
use Rattle.ghg_units.specs.declared.unit.Unit.{Unit as UnitWord}
use Rattle.ghg_units.specs.declared.unit.Unit.TheVariants.{Year}
use Rattle.ghg_units.specs.Name.{plain_name_in}
use Rattle.ghg_units.specs.Units.{unit_in}
use Rattle.ghg_words.specs.declared.command.Command.{Command}
use Rattle.ghg_words.specs.declared.command.Command.TheVariants.{Compile, Generate, Review, Serve, Splice}
use Rattle.ghg_words.specs.declared.command.Settings.{Settings}
use Rattle.ghg_words.specs.declared.command.TheConstants.{MOST_WORKERS}
use Rattle.ghg_words.specs.Options.{Options, only, options_in, value_of}
use Rattle.ghg_words.specs.Values.{number_within, store_name}

-- one worker, unless a number is given
abbrev pub workers_of : Option (List ℕ) → Option ℕ
workers_of None = Some 1
workers_of (Some text) = number_within 1 MOST_WORKERS text

-- no store, unless one is named
abbrev pub store_of : Option (List ℕ) → Option (Option (List ℕ))
store_of None = Some None
store_of (Some text) = option_map (λ name. Some name) (store_name text)

abbrev pub settings_of : Options → Option Settings
settings_of o =
    option_and_then (λ workers.
    option_map (λ store. record { workers = workers; store = store }) (store_of (value_of (codes "store") o)))
    (workers_of (value_of (codes "workers") o))

-- the number that the option of that name gives, between two bounds
unfoldable pub number_from : List ℕ → ℕ → ℕ → Options → Option ℕ
number_from name low high o = option_and_then (number_within low high) (value_of name o)

abbrev pub compile_of : Options → Option Command
compile_of o = option_map Compile (settings_of o)

abbrev pub serve_of : Options → Option Command
serve_of o =
    option_and_then (λ settings.
    option_and_then (λ port.
    option_map (λ connections. Serve (record { settings = settings; port = port; connections = connections }))
    (number_from (codes "connections") 1 1000000 o))
    (number_from (codes "port") 1 65535 o))
    (settings_of o)

abbrev pub generate_of : Options → Option Command
generate_of o =
    option_and_then (λ workers.
    option_and_then (λ seed.
    option_map (λ lines. Generate (record { workers = workers; seed = seed; lines = lines }))
    (number_from (codes "lines") 1 1000 o))
    (number_from (codes "seed") 0 2147483647 o))
    (workers_of (value_of (codes "workers") o))

-- a unit, but for that of half-lives
abbrev pub but_years : UnitWord → Option UnitWord
but_years Year = None
but_years unit = Some unit

abbrev pub spliced_unit : List ℕ → Option UnitWord
spliced_unit text = option_and_then but_years (unit_in text)

abbrev pub splice_of : Options → Option Command
splice_of o =
    option_and_then (λ method.
    option_and_then (λ name.
    option_map (λ unit. Splice (record { method = method; name = name; unit = unit }))
    (option_and_then spliced_unit (value_of (codes "unit") o)))
    (option_and_then plain_name_in (value_of (codes "name") o)))
    (option_and_then method_named (value_of (codes "method") o))

abbrev pub review_of : Options → Option Command
review_of o =
    option_map (λ workers. Review (record { workers = workers })) (workers_of (value_of (codes "workers") o))

-- the options, if the command takes them
unfoldable pub options_of_compile : Options → Option Options
options_of_compile = only (codes "workers" ∷ codes "store" ∷ [])

unfoldable pub options_of_serve : Options → Option Options
options_of_serve = only (codes "workers" ∷ codes "store" ∷ codes "port" ∷ codes "connections" ∷ [])

unfoldable pub options_of_generate : Options → Option Options
options_of_generate = only (codes "seed" ∷ codes "lines" ∷ codes "workers" ∷ [])

unfoldable pub options_of_splice : Options → Option Options
options_of_splice = only (codes "method" ∷ codes "name" ∷ codes "unit" ∷ [])

unfoldable pub options_of_review : Options → Option Options
options_of_review = only (codes "workers" ∷ [])

-- the command of that name, with these options
abbrev pub command_named : List ℕ → Options → Option Command
command_named word o =
    if bytes_eq word (codes "compile") then option_and_then compile_of (options_of_compile o) else (
    if bytes_eq word (codes "serve") then option_and_then serve_of (options_of_serve o) else (
    if bytes_eq word (codes "generate") then option_and_then generate_of (options_of_generate o) else (
    if bytes_eq word (codes "splice") then option_and_then splice_of (options_of_splice o) else (
    if bytes_eq word (codes "review") then option_and_then review_of (options_of_review o) else None))))

-- the command that the words are
unfoldable pub command_in : List (List ℕ) → Option Command
command_in [] = None
command_in (word ∷ words) = option_and_then (command_named word) (options_in words)

abbrev pub AreWorkers : ℕ → Type 0
AreWorkers workers = (1 ≤ workers) × (workers ≤ MOST_WORKERS)

-- a command has 1 to 64 workers, and serves one connection at least
abbrev pub IsBounded : Command → Type 0
IsBounded (Compile settings) = AreWorkers settings.workers
IsBounded (Serve service) = AreWorkers service.settings.workers × (1 ≤ service.connections)
IsBounded (Generate sample) = AreWorkers sample.workers
IsBounded (Splice splicing) = ⊤
IsBounded (Review review) = AreWorkers review.workers
