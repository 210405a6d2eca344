-- The settings of inputs to the values of a vector.
use Rattle.std.proofs.Common.{◌≡◌, Bool, true, false, List, [], ◌∷◌, refl, sym, ◌∙◌, ap, subst}
use Rattle.std.specs.Prelude.{if◌then◌else◌, slice_set}
use Rattle.std.specs.List.{All}
use Rattle.std.proofs.lemmas.List.{set-get_or}
use Rattle.std.proofs.lemmas.List.Elements.{All-head, All-tail}
use Rattle.ca_net.specs.declared.trit.Trit.{Trit}
use Rattle.ca_net.specs.declared.trit.Trit.TheVariants.{Zero, One, X}
use Rattle.ca_net.specs.declared.node.NodeId.{NodeId}
use Rattle.ca_net.specs.Circuit.{Circuit, IsInput}
use Rattle.ca_net.specs.State.{value_at}
use Rattle.ca_net.specs.Event.{Set, Run}
use Rattle.ca_replay.specs.Replay.{is_same, settings}
use Rattle.ca_replay.specs.code.Kept.{with_values}

pub same_values : (a b : Trit) → is_same a b ≡ true → a ≡ b
same_values Zero Zero is = refl
same_values Zero One is = cc
same_values Zero X is = cc
same_values One Zero is = cc
same_values One One is = refl
same_values One X is = cc
same_values X Zero is = cc
same_values X One is = cc
same_values X X is = refl

pub other_values : (a b : Trit) → is_same a b ≡ false → a ≡ b → ⊥
other_values Zero Zero is same = cc
other_values Zero One is same = cc
other_values Zero X is same = cc
other_values One Zero is same = cc
other_values One One is same = cc
other_values One X is same = cc
other_values X Zero is same = cc
other_values X One is same = cc
other_values X X is same = cc

-- a node that is set to the value that it has
pub set_same : (s : List Trit) (node : NodeId) (v : Trit) → value_at s node.0 ≡ v → slice_set s node.0 v ≡ s
set_same s node v is = ap (λ x. slice_set s node.0 x) (sym is) ∙ set-get_or s node.0 X

module _ (net : Circuit) (v : List Trit) where
  -- the settings are a run, in which the inputs take their values
  pub settings_run : (inputs : List NodeId) (s : List Trit) → All (λ input. IsInput net input.0) inputs
      → Run net s (settings v inputs s) (with_values v inputs s)
  unfolding settings
  settings_run [] s all = refl
  settings_run (input ∷ inputs) s all =
      let rest = All-tail (λ (given : NodeId). IsInput net given.0) input inputs all in
      by (is_same (value_at s input.0) (value_at v input.0)) (same_values (value_at s input.0) (value_at v input.0))
      (All-head (λ (given : NodeId). IsInput net given.0) input inputs all) (settings_run inputs s rest)
      (settings_run inputs (slice_set s input.0 (value_at v input.0)) rest)
    where
      by : (test : Bool) → (test ≡ true → value_at s input.0 ≡ value_at v input.0) → IsInput net input.0
          → Run net s (settings v inputs s) (with_values v inputs s)
          → Run net (slice_set s input.0 (value_at v input.0)) (settings v inputs (slice_set s input.0 (value_at v input.0)))
          (with_values v inputs (slice_set s input.0 (value_at v input.0)))
          → Run net s (if test then settings v inputs s
          else Set input.0 (value_at v input.0) ∷ settings v inputs (slice_set s input.0 (value_at v input.0)))
          (with_values v inputs (slice_set s input.0 (value_at v input.0)))
      by true reported is stays sets =
          subst (λ next. Run net s (settings v inputs s) (with_values v inputs next)) (sym (set_same s input (value_at v input.0) (reported refl))) stays
      by false reported is stays sets = (is, (slice_set s input.0 (value_at v input.0), refl, sets))

  -- and it ends nowhere else
  pub settings_end : (inputs : List NodeId) (s t : List Trit) → Run net s (settings v inputs s) t → t ≡ with_values v inputs s
  unfolding settings
  settings_end [] s t run = run
  settings_end (input ∷ inputs) s t run =
      by (is_same (value_at s input.0) (value_at v input.0)) (same_values (value_at s input.0) (value_at v input.0))
      (settings_end inputs s t) (settings_end inputs (slice_set s input.0 (value_at v input.0)) t) run
    where
      by : (test : Bool) → (test ≡ true → value_at s input.0 ≡ value_at v input.0)
          → (Run net s (settings v inputs s) t → t ≡ with_values v inputs s)
          → (Run net (slice_set s input.0 (value_at v input.0)) (settings v inputs (slice_set s input.0 (value_at v input.0))) t
          → t ≡ with_values v inputs (slice_set s input.0 (value_at v input.0)))
          → Run net s (if test then settings v inputs s
          else Set input.0 (value_at v input.0) ∷ settings v inputs (slice_set s input.0 (value_at v input.0))) t
          → t ≡ with_values v inputs (slice_set s input.0 (value_at v input.0))
      by true reported stays sets run =
          stays run ∙ ap (λ next. with_values v inputs next) (sym (set_same s input (value_at v input.0) (reported refl)))
      by false reported stays sets run =
          sets (subst (λ mid. Run net mid (settings v inputs (slice_set s input.0 (value_at v input.0))) t) run.1.1 run.1.2)
