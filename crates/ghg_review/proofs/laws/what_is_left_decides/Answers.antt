use Rattle.ghg_script.specs.Review.{review_forms}
use Rattle.ghg_script.proofs.Commands.{command_locally}
use Rattle.ghg_review.specs.Replies.{review}
use Rattle.ghg_session.proofs.Decided.{session_decided}
use Rattle.ghg_review.proofs.laws.what_is_left_decides.Goals as goal

pub returns : goal.returns
returns c = session_decided review (command_locally review_forms)
