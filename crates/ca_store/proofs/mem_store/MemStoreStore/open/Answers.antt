use Rattle.std.proofs.Common.{◌≡◌, None, refl}
use Rattle.ca_store.specs.MemStore.{reported_by}
use Rattle.ca_store.proofs.LastFiles.{none_is_not_some}
use Rattle.ca_store.proofs.mem_store.MemStoreStore.open.Goals as goal

pub returns-in_default-clause-cause : goal.returns-in_default-clause-cause
returns-in_default-clause-cause c =
    let lacks : reported_by c.args.self.now c.args.name.now ≡ None = rw c.as_bytes.ensures.value at c.in_default.ensures in
    record {
      missing = λ _. (refl, refl);
      cause = λ may. absurd (none_is_not_some _ lacks (may _ refl));
    }
