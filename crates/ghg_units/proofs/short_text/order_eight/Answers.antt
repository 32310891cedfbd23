use Rattle.std.proofs.Common.{All, sym}
use Rattle.std.proofs.lemmas.List.Elements.{All-from_get_or}
use Rattle.ghg_units.proofs.ByteOrder.{IsByte, part_order}
use Rattle.ghg_units.proofs.short_text.order_eight.Goals as goal

pub returns : goal.returns
returns c =
    let a = c.args.a.now in
    let b = c.args.b.now in
    let left : All IsByte a = All-from_get_or IsByte a 0 (λ k _. (c.type_inv.a k).fits) in
    let right : All IsByte b = All-from_get_or IsByte b 0 (λ k _. (c.type_inv.b k).fits) in
    rw (c.cmp.ensures, c.word.ensures, c.word-2.ensures)
    (sym (part_order c.args.at 8 a b c.requires.left c.requires.right left right))
