use Rattle.ghg_script.specs.Script.{script_forms}
use Rattle.ghg_script.proofs.Commands.{command_locally}
use Rattle.ghg_session.specs.Replies.{protocol}
use Rattle.ghg_session.proofs.Decided.{session_decided}
use Rattle.ghg_session.proofs.laws.what_is_left_decides.Goals as goal

pub returns : goal.returns
returns c stored = session_decided (protocol stored) (command_locally script_forms)
