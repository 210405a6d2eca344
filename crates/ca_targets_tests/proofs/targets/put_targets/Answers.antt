use Rattle.ca_targets_tests.proofs.targets.put_targets.Goals as goal

pub targets-requires : goal.targets-requires
targets-requires c = λ bridge listed. (((c.in_ok-list.ensures {u = tt}).listed bridge).0 listed).0

pub put_all-put-requires-clause-known : goal.put_all-put-requires-clause-known
put_all-put-requires-clause-known c = λ bridge listed. (((c.in_ok-list.ensures {u = tt}).listed bridge).0 listed).0
