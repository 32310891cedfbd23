-- The run of the submissions, and its summary.
use Rattle.std.specs.Prelude.{ℕ, zero, suc, ◌+◌, ◌==◌, if◌then◌else◌, List, [], ◌∷◌, ◌++◌, map, codes, decimal}
use Rattle.ghg_definitions.specs.Compilation.{compilation}
use Rattle.ghg_keeper.specs.declared.row.KeptRow.{KeptRow}
use Rattle.ghg_office.specs.declared.reply.Reply.{Reply}
use Rattle.ghg_office.specs.declared.reply.Reply.TheVariants.{Accepted}
use Rattle.ghg_office.specs.Office.{Answer, State, start, submitted}
use Rattle.ghg_tables.specs.declared.precision.Precision.TheVariants.{Thousandths}
use Rattle.ghg_tables.specs.Sums.{shown}
use Rattle.ghg_tables.specs.Texts.{figures_text}
use Rattle.ghg_units.specs.declared.node.Node.TheVariants.{Gross}
use Rattle.ghg_generator.specs.declared.progress.Progress.{Progress}
use Rattle.ghg_generator.specs.Bodies.{line_body, opening_body}
use Rattle.ghg_generator.specs.Draws.{after_draws}

-- ---- the submissions

-- a body, under the id that its place gives
abbrev pub submission : ℕ → List ℕ → KeptRow
submission place body = record { id = codes "G" ++ decimal place; body = body }

-- those of so many lines from this place on, drawn after this number
unfoldable pub line_submissions : ℕ → ℕ → ℕ → List KeptRow
line_submissions zero place x = []
line_submissions (suc lines) place x =
    submission place (line_body place x) ∷ line_submissions lines (place + 1) (after_draws 32 x)

abbrev pub submissions : ℕ → ℕ → List KeptRow
submissions seed lines = submission 0 opening_body ∷ line_submissions lines 1 seed

-- ---- their run

-- before the first
abbrev pub begun : Progress
begun = record { office = start; accepted = 0; cells = 0 }

-- what an answer adds to the two sums: only submissions that are accepted count
abbrev pub accepted_in : Reply → ℕ
accepted_in (Accepted seq cells) = 1
accepted_in reply = 0

abbrev pub cells_in : Reply → ℕ
cells_in (Accepted seq cells) = cells
cells_in reply = 0

abbrev pub counted : Progress → Answer → Progress
counted p answer = record {
  office = answer.after;
  accepted = p.accepted + accepted_in answer.reply;
  cells = p.cells + cells_in answer.reply;
}

-- after one submission more, and after all of some
abbrev pub one_more : Progress → KeptRow → Progress
one_more p given = counted p (submitted p.office given.id given.body)

abbrev pub after_all : Progress → List KeptRow → Progress
after_all p [] = p
after_all p (given ∷ rest) = after_all (one_more p given) rest

-- ---- the summary

-- a space in place of a comma
abbrev pub spaced : ℕ → ℕ
spaced byte = if byte == 44 then 32 else byte

-- the four lines above the last
unfoldable pub counts_text : ℕ → ℕ → Progress → List ℕ
counts_text seed lines p =
    codes "seed " ++ decimal seed ++ codes "\nlines " ++ decimal lines ++ codes "\naccepted "
    ++ decimal p.accepted ++ codes "\ncells " ++ decimal p.cells ++ codes "\n"

-- what tables print of the gross total of 2020, with spaces for commas
abbrev pub gross_text : State → List ℕ
gross_text s = map spaced (figures_text Thousandths (shown (compilation s.content) (Gross 2020)))

-- the summary of a run that came so far
abbrev pub summary_of : ℕ → ℕ → Progress → List ℕ
summary_of seed lines p =
    counts_text seed lines p ++ codes "gross 2020 " ++ gross_text p.office ++ codes "\n"

-- the summary that a seed and a number of lines decide
abbrev pub summary : ℕ → ℕ → List ℕ
summary seed lines = summary_of seed lines (after_all begun (submissions seed lines))
