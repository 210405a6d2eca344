use Rattle.std.proofs.Common.{◌≡◌}
use Rattle.ca_store.specs.Store.{Nothing}
use Rattle.ca_store.specs.MemStore.{opened_by}
use Rattle.ca_text_tests.proofs.stores.eight_creates_succeed.Given as goal

abbrev pub invariant-loop-name : goal.invariant-loop-name
invariant-loop-name g l = opened_by l.store ≡ Nothing
