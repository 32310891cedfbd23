-- The bounds that a session prints.
use Rattle.std.specs.Prelude.{◌≡◌, ⊤, ℕ, Bool, List}
use Rattle.ghg_office.specs.declared.reply.Reply.{Reply}
use Rattle.ghg_office.specs.Laws.{IsInForce}
use Rattle.ghg_office.specs.Office.{State}
use Rattle.ghg_office.specs.Sound.{IsSoundReply}
use Rattle.ghg_script.specs.declared.command.Request.{Request}
use Rattle.ghg_script.specs.declared.command.Request.TheVariants.{Submit, Query}
use Rattle.ghg_script.specs.declared.script.TableQuery.{TableQuery}
use Rattle.ghg_session.specs.Replies.{protocol, table_lines}
use Rattle.ghg_session.specs.Session.{EachReply}

-- The lines are those of a reply to this request, a table under its heading or `no table`, and the reply is
-- sound in this state.
abbrev pub AreSoundTableLines : State → TableQuery → List ℕ → Type 0
AreSoundTableLines s show lines = (reply : Reply)
    × (lines ≡ table_lines show.table show.year reply) × IsSoundReply s show.table show.year reply

-- the same of a request for a table; of the reply to a submission this says nothing
abbrev pub AreSoundLines : State → Request TableQuery → List ℕ → Type 0
AreSoundLines s (Submit id body) lines = ⊤
AreSoundLines s (Query show) lines = AreSoundTableLines s show lines

-- Whatever is requested from this state on, in each table among the replies the bounds hold the exact values
-- of the nodes of the data then in force, wherever the inputs are within their supplied bounds.
abbrev pub HasSoundReplies : Bool → State → Type 0
HasSoundReplies stored s =
    (requests : List (Request TableQuery)) → EachReply (protocol stored) AreSoundLines s requests

-- That holds from each state in force.
abbrev pub RepliesAreSound : Type 0
RepliesAreSound = (stored : Bool) (s : State) → IsInForce s → HasSoundReplies stored s
