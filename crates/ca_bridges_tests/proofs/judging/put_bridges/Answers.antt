use Rattle.ca_bridges_tests.proofs.judging.put_bridges.Goals as goal

pub judge-requires : goal.judge-requires
judge-requires c = λ bridge listed. (((c.in_ok-list.ensures {u = tt}).listed bridge).0 listed).0

pub put_all-put-requires : goal.put_all-put-requires
put_all-put-requires c = λ bridge listed. (((c.in_ok-list.ensures {u = tt}).listed bridge).0 listed).0
