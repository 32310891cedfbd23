use Rattle.std.proofs.Common.{◌≡◌, ◌≢◌, ◌≤◌, ◌<◌, true, length, refl, sym, ap, subst, ◌∙◌, arith}
use Rattle.ghg_versions.specs.declared.reply.DeskReply.TheVariants.{Frozen, VersionExists, TooManyVersions}
use Rattle.ghg_versions.specs.Desk.{DeskState, frozen, most_versions, present}
use Rattle.ghg_versions.specs.Replies.{Answers, takes_memory}
use Rattle.ghg_versions.proofs.Replying.{frozen_again, frozen_before, frozen_first, frozen_now, has_room, too_many, versions_count}
use Rattle.ghg_versions.proofs.desk.Desk.freeze.Goals as goal
use Rattle.ghg_versions.proofs.desk.Desk.freeze.Goals.{then-version-seq, else-version-seq}

pub returns-in-Some-version_named-clause-answer : goal.returns-in-Some-version_named-clause-answer
returns-in-Some-version_named-clause-answer c =
    let s = c.args.self.now in
    let version = c.in-Some-version_named.version.now in
    let some = rw (c.deref.ensures.value, c.as_bytes.ensures.value) at c.in-Some-version_named.ensures in
    let once = frozen_again _ c.self.inside.versions.items s c.self.view_is c.in-Some.name c.args.name.now version c.in-Some.ensures some in
    let seq = c.accepted-seq.ensures.count ∙ ap (λ (d : DeskState). length d.office.accepted) c.self.view_is in
    elim c.if-version-seq.branch [
      | then-version-seq w ↦
          let same : version.seq ≡ c.accepted-seq.result = w.if-version-seq.true in
          let all = sym (once ∙ frozen_now s c.in-Some.name version.seq (same ∙ seq)) in
          let answers = subst (λ a. Answers a (Frozen c.accepted-seq.result) s s) all (ap Frozen (sym same), refl) in
          subst (λ r. Answers (frozen s c.args.name.now) r s s) (sym w.result-is) answers
      | else-version-seq w ↦
          let other : version.seq ≢ present s = λ e. w.if-version-seq.false (e ∙ sym seq) in
          let all = sym (once ∙ frozen_before s c.in-Some.name version.seq other) in
          let answers = subst (λ a. Answers a (VersionExists version.seq) s s) all (refl, refl) in
          subst (λ r. Answers (frozen s c.args.name.now) r s s) (sym w.result-is) answers
    ]

pub returns-then-len-ge-MOST_VERSIONS-clause-answer : goal.returns-then-len-ge-MOST_VERSIONS-clause-answer
returns-then-len-ge-MOST_VERSIONS-clause-answer c =
    let s = c.args.self.now in
    let none = rw (c.deref.ensures.value, c.as_bytes.ensures.value) at c.in_default-version_named.ensures in
    let once = frozen_first _ c.self.inside.versions.items s c.self.view_is c.in-Some.name c.args.name.now c.in-Some.ensures none in
    let count = versions_count _ c.self.inside.versions.items s c.self.view_is c.in-Some.name in
    let many : most_versions ≤ length s.versions = grind (arith, count, c.self.inside.versions.ok, c.len.ensures, c.if-len-ge-MOST_VERSIONS.true) in
    subst (λ a. Answers a TooManyVersions s s) (sym (once ∙ too_many s c.in-Some.name many)) (refl, refl)

pub returns-in-Ok-clause-answer : goal.returns-in-Ok-clause-answer
returns-in-Ok-clause-answer c =
    let s = c.args.self.now in
    let none = rw (c.deref.ensures.value, c.as_bytes.ensures.value) at c.in_default-version_named.ensures in
    let once = frozen_first _ c.self.inside.versions.items s c.self.view_is c.in-Some.name c.args.name.now c.in-Some.ensures none in
    let count = versions_count _ c.self.inside.versions.items s c.self.view_is c.in-Some.name in
    let room : length s.versions < most_versions = grind (arith, count, c.self.inside.versions.ok, c.len.ensures, c.if-len-ge-MOST_VERSIONS.false) in
    let seq = c.accepted-seq.ensures.count ∙ ap (λ (d : DeskState). length d.office.accepted) c.self.view_is in
    subst (λ a. Answers a (Frozen c.accepted-seq.result) s c.keep.new.self) (sym (once ∙ has_room s c.in-Some.name room)) (ap Frozen seq, c.in-Ok.ensures.kept)

pub returns-in-Err-clause-memory : goal.returns-in-Err-clause-memory
returns-in-Err-clause-memory c =
    let s = c.args.self.now in
    let none = rw (c.deref.ensures.value, c.as_bytes.ensures.value) at c.in_default-version_named.ensures in
    let once = frozen_first _ c.self.inside.versions.items s c.self.view_is c.in-Some.name c.args.name.now c.in-Some.ensures none in
    let count = versions_count _ c.self.inside.versions.items s c.self.view_is c.in-Some.name in
    let room : length s.versions < most_versions = grind (arith, count, c.self.inside.versions.ok, c.len.ensures, c.if-len-ge-MOST_VERSIONS.false) in
    λ e. subst (λ a. takes_memory a.reply ≡ true) (sym (once ∙ has_room s c.in-Some.name room)) refl
