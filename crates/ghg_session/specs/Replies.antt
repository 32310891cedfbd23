-- What the office replies to requests, as bytes, and its state after them.
use Rattle.std.specs.Prelude.{◌≡◌, ℕ, Bool, false, List, ◌++◌, ◌==◌, codes, count_by}
use Rattle.std.specs.Fmt.{decimal}
use Rattle.ghg_office.specs.Keeping.{is_to_append}
use Rattle.ghg_office.specs.Office.{State}
use Rattle.ghg_office.specs.Replies.{is_short, needs_memory, reply_text}
use Rattle.ghg_office.specs.Requests.{answer_to, evaluations_for}
use Rattle.ghg_office.specs.declared.reply.Reply.{Reply}
use Rattle.ghg_office.specs.declared.reply.Reply.TheVariants.{KeeperFault, Table}
use Rattle.ghg_office.specs.declared.request.Request.{Request as Asked}
use Rattle.ghg_office.specs.declared.request.Request.TheVariants as asked
use Rattle.ghg_script.specs.declared.command.Request.{Request}
use Rattle.ghg_script.specs.declared.command.Request.TheVariants.{Submit, Query}
use Rattle.ghg_script.specs.declared.script.TableQuery.{TableQuery}
use Rattle.ghg_words.specs.declared.status.Status.{Status}
use Rattle.ghg_words.specs.declared.status.Status.TheVariants.{OutOfMemory, StoreFailed}
use Rattle.ghg_script.specs.Commands.{line_of}
use Rattle.ghg_script.specs.Script.{script_forms}
use Rattle.ghg_session.specs.Session.{Protocol, Step, protocol_of}

-- how many lines a text has, each of which a line feed ends
abbrev pub line_count : List ℕ → ℕ
line_count text = count_by (λ b. b == 10) text

-- the line that a table stands under
unfoldable pub heading : List ℕ → ℕ → List ℕ → List ℕ
heading table year text =
    line_of (codes "table " ++ table ++ codes " " ++ decimal year ++ codes " rows "
    ++ decimal (line_count text))

-- the lines of a reply to a request for a table: the table under its heading, or one line
abbrev pub table_lines : List ℕ → ℕ → Reply → List ℕ
table_lines table year (Table text) = heading table year text ++ text
table_lines table year reply = line_of (reply_text reply)

-- why a reply has no line: the keeper failed, or memory ran out, perhaps for the line
abbrev pub HasNoReply : Reply → Status → Type 0
HasNoReply KeeperFault stop = stop ≡ StoreFailed
HasNoReply reply stop = stop ≡ OutOfMemory

-- a short line needs no memory
abbrev pub HasNoLines : Reply → Status → Type 0
HasNoLines reply stop = HasNoReply reply stop × (is_short reply ≡ false)

-- what a script asks of the office
abbrev pub asked_of : Request TableQuery → Asked (List ℕ)
asked_of (Submit id body) = asked.Submit id body
asked_of (Query show) = asked.Show show.table show.year

abbrev pub lines_of : Request TableQuery → Reply → List ℕ
lines_of (Submit id body) reply = line_of (reply_text reply)
lines_of (Query show) reply = table_lines show.table show.year reply

-- What a request to the office comes to. Where submissions are stored, one that is accepted is kept. A step
-- is the evaluation of a node.
unfoldable pub office_step : Bool → State → Request TableQuery → Step State
office_step stored s request = record {
  reply = lines_of request (answer_to s (asked_of request)).reply;
  after = (answer_to s (asked_of request)).after;
  takes_memory = needs_memory (answer_to s (asked_of request)).reply;
  is_kept = is_to_append stored (answer_to s (asked_of request));
  steps = evaluations_for s (asked_of request);
}

abbrev pub protocol : Bool → Protocol State (Request TableQuery)
protocol stored = protocol_of script_forms (office_step stored)
