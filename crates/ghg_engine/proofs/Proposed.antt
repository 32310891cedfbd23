-- What was arranged or proposed on an engine, as its cells and its index grow.
use Rattle.std.proofs.Common.{◌≡◌, List, sym, ◌∙◌, subst}
use Rattle.ghg_columns.specs.Fresh.{HasRoomFor}
use Rattle.ghg_definitions.specs.Rings.{IsAcyclic}
use Rattle.ghg_data.specs.Changes.{Change, applied}
use Rattle.ghg_data.specs.Shelf.{IsPlanned, Shelf}
use Rattle.ghg_search.specs.Index.{HasUsers}
use Rattle.ghg_engine.specs.declared.proposal.Proposal.{Proposal}
use Rattle.ghg_engine.specs.Proposals.{IsArranged, IsFresh, IsMadeOn}
use Rattle.ghg_engine.specs.Views.{EngineView, shelf_of}

pub arranged_still : (old new : EngineView) → shelf_of new ≡ shelf_of old → (edits : List Change) → IsArranged old edits → IsArranged new edits
arranged_still old new same edits is = record {
  planned = subst (λ s. IsPlanned s edits) (sym same) is.planned;
  acyclic = subst (λ (s : Shelf). IsAcyclic (applied s.content edits)) (sym same) is.acyclic;
}

pub made_on : (old between new : EngineView) (p : Proposal) → shelf_of between ≡ shelf_of old → shelf_of new ≡ shelf_of between → new.index ≡ between.index
    → IsPlanned (shelf_of old) p.edits → HasUsers (applied old.content p.edits) between.index
    → IsFresh between.content (applied between.content p.edits) p.fresh → HasRoomFor new.cells p.fresh → IsMadeOn new p
made_on old between new p first second index planned users fresh room = record {
  planned = subst (λ s. IsPlanned s p.edits) (sym (second ∙ first)) planned;
  fresh = subst (λ (s : Shelf). IsFresh s.content (applied s.content p.edits) p.fresh) (sym second) fresh;
  room = room;
  users = subst (HasUsers (applied new.content p.edits)) (sym index) (subst (λ (s : Shelf). HasUsers (applied s.content p.edits) between.index) (sym (second ∙ first)) users);
}
