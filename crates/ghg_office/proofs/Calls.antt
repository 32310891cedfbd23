-- Whether the keeper is called.
use Rattle.std.proofs.Common.{◌≡◌, ◌∙◌, Bool, true, false, refl, sym}
use Rattle.std.proofs.lemmas.Bool.{and_from}
use Rattle.ghg_office.specs.Keeping.{is_to_append}
use Rattle.ghg_office.specs.Office.{Answer}
use Rattle.ghg_office.specs.Replies.{is_accepted}

pub is_appended : (stored : Bool) (answer : Answer) → stored ≡ true → is_accepted answer.reply ≡ true → is_to_append stored answer ≡ true
is_appended stored answer e f = and_from stored (is_accepted answer.reply) e f

pub unstored : (stored : Bool) (answer : Answer) → is_accepted answer.reply ≡ true → is_to_append stored answer ≡ false → stored ≡ false
unstored true answer e f = sym e ∙ f
unstored false answer e f = refl
