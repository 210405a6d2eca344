use Rattle.std.proofs.Common.{◌≡◌, ◌∙◌, ℕ, List, ap, sym, rules, Some, None}
use Rattle.std.proofs.lemmas.Option.{MatchOption-at_none, MatchOption-at_some}
use Rattle.ca_net.specs.declared.node.NodeId.{NodeId}
use Rattle.ca_order.specs.Lines.{words_of, node_of, nodes_of}
use Rattle.ca_order.specs.code.Lines.{nodes_before}
use Rattle.ca_order.proofs.EventLemmas.{one_node, no_node, last_node, first_word}
use Rattle.ca_order.proofs.read.nodes_of.Goals as goal

pub returns-in_default : goal.returns-in_default
returns-in_default c =
    let places = c.args.places.now in
    let word = c.cut_word.result.0.now in
    let none : node_of places word ≡ None = search rules in
    let found = first_word c.cut_word.result.1 c.words.rest.now word c.cut_word.ensures in
    sym (c.words.invariant ∙ (ap (λ (words : List (List ℕ)). nodes_before c.words.nodes (nodes_of places words)) found.1
    ∙ no_node places c.words.nodes word found.0 none))

pub returns-in_default-following : goal.returns-in_default-following
returns-in_default-following c =
    let places = c.args.places.now in
    let word = c.cut_word.result.0.now in
    let node : node_of places word ≡ Some c.in-Some.node = search rules in
    let last = MatchOption-at_none _ _ c.in_default-following.is c.cut_word.ensures in
    sym (c.words.invariant ∙ (ap (λ (words : List (List ℕ)). nodes_before c.words.nodes (nodes_of places words)) last
    ∙ (last_node places c.words.nodes word c.in-Some.node node ∙ ap (λ (nodes : List NodeId). Some nodes) (sym c.in_ok-push.ensures.ok))))

pub words-preserved : goal.words-preserved
words-preserved c =
    let places = c.args.places.now in
    let word = c.cut_word.result.0.now in
    let node : node_of places word ≡ Some c.in-Some.node = search rules in
    let more = MatchOption-at_some _ _ _ c.in-Some-following.is c.cut_word.ensures in
    c.words.invariant ∙ (ap (λ (words : List (List ℕ)). nodes_before c.words.nodes (nodes_of places words)) more.0
    ∙ (one_node places c.words.nodes word _ c.in-Some.node node
    ∙ ap (λ (nodes : List NodeId). nodes_before nodes (nodes_of places (words_of c.in-Some-following.more.now))) (sym c.in_ok-push.ensures.ok)))
