-- What holds unless memory ran out.
use Rattle.std.proofs.Common.{Result, Ok, Err}
use Rattle.ghg_engine.specs.Evaluation.{UnlessMemory}
use Rattle.ghg_engine.specs.declared.refusal.EngineRefusal.{EngineRefusal}
use Rattle.ghg_engine.specs.declared.refusal.EngineRefusal.TheVariants as refusal

module _ (fact other : Type 0) (so : fact → other) where
  pub answered : {A : Type 0} (result : Result A EngineRefusal) → UnlessMemory result fact → UnlessMemory result other
  answered (Ok a) is = so is
  answered (Err (refusal.Overflow n)) is = so is
  answered (Err refusal.Memory) is = tt

  pub refused : (A B : Type 0) (e : EngineRefusal) → UnlessMemory {A = A} (Err e) fact → UnlessMemory {A = B} (Err e) other
  refused A B (refusal.Overflow n) is = so is
  refused A B refusal.Memory is = tt
