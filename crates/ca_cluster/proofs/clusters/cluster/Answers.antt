use Rattle.ca_cluster.proofs.clusters.cluster.Goals as goal

pub returns-then-is_at_port : goal.returns-then-is_at_port
returns-then-is_at_port c = c.is_at_port.ensures.0 c.if-is_at_port.true

pub returns-then-is_one_node : goal.returns-then-is_one_node
returns-then-is_one_node c =
    (λ p. let holds = c.is_at_port.ensures.1 p in let fails = c.if-is_at_port.false in cc, c.is_one_node.ensures.0 c.if-is_one_node.true)

pub merged_by-answer-requires-clause-inside : goal.merged_by-answer-requires-clause-inside
merged_by-answer-requires-clause-inside c = record {
  no_port = λ p. let holds = c.is_at_port.ensures.1 p in let fails = c.if-is_at_port.false in cc;
  apart = λ e. let holds = c.is_one_node.ensures.1 e in let fails = c.if-is_one_node.false in cc;
}
