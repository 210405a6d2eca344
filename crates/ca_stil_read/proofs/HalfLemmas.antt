-- The steps of a pair, part by part.
use Rattle.std.proofs.Common.{◌≡◌, List, [], ◌∷◌, ◌++◌, ap, ◌∙◌, append_assoc}
use Rattle.ca_stil_form.specs.Form.{Token}
use Rattle.ca_stil_form.specs.Frame.{Frame, Member, load_members, unload_members, group_member, key_inputs}
use Rattle.ca_stil_form.specs.Frame.{key_outputs}
use Rattle.ca_stil_form.specs.Pattern.{load_ends, first_ends, last_ends, unload_ends}
use Rattle.ca_stil_read.specs.declared.plan.Step.{Step}
use Rattle.ca_stil_read.specs.declared.plan.Step.TheVariants as step
use Rattle.ca_stil_read.specs.code.Frames.{first_half, last_half, expected_part}
use Rattle.ca_stil_read.specs.Plan.{member_steps, bits_step, levels_step, pair_steps}
use Rattle.ca_stil_read.proofs.Appending.{after_three, after_four}

pub first_half_is : (frame : Frame) (old : List Step) {one two three four : List Step} {loads ins : List Member} {ends first : List Token}
    → loads ≡ load_members frame.chains → ins ≡ group_member key_inputs frame.inputs
    → ends ≡ (load_ends frame.chains).tokens → first ≡ (first_ends frame).tokens
    → one ≡ old ++ member_steps bits_step loads → two ≡ one ++ step.Due ends ∷ []
    → three ≡ two ++ member_steps bits_step ins → four ≡ three ++ step.Due first ∷ [] → four ≡ old ++ first_half frame
unfolding first_half
first_half_is frame old loads_are ins_are ends_are first_are one two three four =
    after_four old _ _ _ _ one two three four
    ∙ (λ j. old ++ (member_steps bits_step (loads_are j) ++ (step.Due (ends_are j) ∷ (member_steps bits_step (ins_are j) ++ step.Due (first_are j) ∷ []))))

pub last_half_is : (frame : Frame) (old : List Step) {one two three : List Step} {loads ins : List Member} {ends : List Token}
    → loads ≡ load_members frame.chains → ins ≡ group_member key_inputs frame.inputs → ends ≡ (load_ends frame.chains).tokens
    → one ≡ old ++ member_steps bits_step loads → two ≡ one ++ step.Due ends ∷ []
    → three ≡ two ++ member_steps bits_step ins → three ≡ old ++ last_half frame
unfolding last_half
last_half_is frame old loads_are ins_are ends_are one two three =
    after_three old _ _ _ one two three
    ∙ (λ j. old ++ (member_steps bits_step (loads_are j) ++ (step.Due (ends_are j) ∷ member_steps bits_step (ins_are j))))

pub expected_part_is : (frame : Frame) (old : List Step) {one two three four : List Step} {outs unloads : List Member} {last ends : List Token}
    → outs ≡ group_member key_outputs frame.outputs → unloads ≡ unload_members frame.chains
    → last ≡ (last_ends frame).tokens → ends ≡ (unload_ends frame.chains).tokens
    → one ≡ old ++ member_steps levels_step outs → two ≡ one ++ step.Due last ∷ []
    → three ≡ two ++ member_steps levels_step unloads → four ≡ three ++ step.Due ends ∷ [] → four ≡ old ++ expected_part frame
unfolding expected_part
expected_part_is frame old outs_are unloads_are last_are ends_are one two three four =
    after_four old _ _ _ _ one two three four
    ∙ (λ j. old ++ (member_steps levels_step (outs_are j) ++ (step.Due (last_are j) ∷ (member_steps levels_step (unloads_are j) ++ step.Due (ends_are j) ∷ []))))

pub pair_steps_are : (frame : Frame) {one two three : List Step}
    → one ≡ [] ++ first_half frame → two ≡ one ++ last_half frame → three ≡ two ++ expected_part frame → three ≡ pair_steps frame
unfolding first_half last_half expected_part
pair_steps_are frame one two three =
    after_three [] (first_half frame) (last_half frame) (expected_part frame) one two three
    ∙ regroup (member_steps bits_step (load_members frame.chains)) (load_ends frame.chains).tokens
    (member_steps bits_step (group_member key_inputs frame.inputs)) (first_ends frame).tokens (expected_part frame)
  where
    regroup : (loads : List Step) (ends : List Token) (ins : List Step) (first : List Token) (more : List Step)
        → (loads ++ (step.Due ends ∷ (ins ++ step.Due first ∷ []))) ++ ((loads ++ (step.Due ends ∷ ins)) ++ more)
        ≡ loads ++ (step.Due ends ∷ (ins ++ step.Due first ∷ (loads ++ (step.Due ends ∷ (ins ++ more)))))
    regroup loads ends ins first more =
        append_assoc loads (step.Due ends ∷ (ins ++ step.Due first ∷ [])) ((loads ++ (step.Due ends ∷ ins)) ++ more)
        ∙ ap (λ (rest : List Step). loads ++ (step.Due ends ∷ rest))
        (append_assoc ins (step.Due first ∷ []) ((loads ++ (step.Due ends ∷ ins)) ++ more)
        ∙ ap (λ (rest : List Step). ins ++ step.Due first ∷ rest) (append_assoc loads (step.Due ends ∷ ins) more))
