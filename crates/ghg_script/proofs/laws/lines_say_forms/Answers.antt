use Rattle.ghg_script.proofs.Forms.{says_forms}
use Rattle.ghg_script.proofs.ReviewForms.{says_review_forms}
use Rattle.ghg_script.proofs.laws.lines_say_forms.Goals as goal

pub returns-clause-script : goal.returns-clause-script
returns-clause-script c = says_forms

pub returns-clause-review : goal.returns-clause-review
returns-clause-review c = says_review_forms
