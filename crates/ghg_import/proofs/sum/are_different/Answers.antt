use Rattle.std.proofs.Common.{◌∙◌, ap, ◌==◌, length, IfOk}
use Rattle.std.specs.Cmp.Lexicographic.{nat_list_cmp_total, slice_cmp}
use Rattle.std.specs.Ordering.{nat_cmp}
use Rattle.std.specs.BTreeSet as sorted
use Rattle.std.proofs.lemmas.Iterator.{YieldsList-from_slice}
use Rattle.std.proofs.lemmas.Iterator.Adapters.{fact_from_collect}
use Rattle.std.proofs.lemmas.Iterator.Consumers.{YieldsList-from_copied}
use Rattle.std.proofs.lemmas.Map.Views.{btree_set_len-from_list}
use Rattle.ghg_import.proofs.Sums.{counted_once}
use Rattle.ghg_import.proofs.sum.are_different.Goals as goal

pub returns : goal.returns
returns c =
    let all : IfOk c.collect.result (λ once. sorted.IsFromIterResult (slice_cmp nat_cmp) c.args.names.now once) = fact_from_collect (sorted.IsFromIterResult (slice_cmp nat_cmp)) c.collect.result c.collect.ensures.ran (YieldsList-from_copied (YieldsList-from_slice c.args.names.now cc)) in
    let made = rw c.in_ok-once.was at all in
    let count = btree_set_len-from_list nat_list_cmp_total c.args.names.now c.in_ok-once.once made in
    ap (λ n. n == length c.args.names.now) (c.len.ensures.len ∙ count) ∙ counted_once c.args.names.now
