use Rattle.std.proofs.Common.{append_assoc}
use Rattle.ghg_splice.specs.Texts.{subject_text}
use Rattle.ghg_splice.proofs.text.append_subject.Goals as goal

pub returns : goal.returns
unfolding subject_text
returns c = simp append_assoc (simp (c.as_bytes-2.ensures.value, c.format.ensures.text, c.in_ok-append_field-2.ensures, c.as_bytes.ensures.value, c.in_ok-append_field.ensures, append_assoc) at c.append_field-3.ensures)
