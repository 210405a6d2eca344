-- What the code keeps of a frame, as the definitions see it.
use Rattle.std.specs.Prelude.{◌≡◌, ◌≤◌, ◌^◌, List, [], ◌∷◌, ◌++◌, map, Option, MatchOption}
use Rattle.ca_stil_form.specs.Frame.{Chain, Frame, Member, longest, load_members, unload_members}
use Rattle.ca_stil_form.specs.Frame.{group_member}
use Rattle.ca_stil_form.specs.Frame.{key_inputs, key_outputs}
use Rattle.ca_stil_form.specs.Pattern.{load_ends, first_ends, last_ends, unload_ends}
use Rattle.ca_stil_read.specs.declared.frame.FrameChain.{FrameChain}
use Rattle.ca_stil_read.specs.declared.frame.Frame as code
use Rattle.ca_stil_read.specs.declared.plan.Member as kept
use Rattle.ca_stil_read.specs.declared.plan.Step.{Step}
use Rattle.ca_stil_read.specs.declared.plan.Step.TheVariants as step
use Rattle.ca_stil_read.specs.Plan.{member_steps, bits_step, levels_step}

abbrev pub member_seen : kept.Member → Member
member_seen member = record { key = member.key; used = member.used; filled = member.filled }

abbrev pub chain_seen : FrameChain → Chain
chain_seen chain = record { scan_in = chain.scan_in; scan_out = chain.scan_out; cells = chain.cells }

abbrev pub frame_seen : code.Frame → Frame
frame_seen frame =
    record { inputs = frame.inputs; outputs = frame.outputs; chains = map chain_seen frame.chains }

-- these are the chains, or there are none and one has more cells than any text has bytes
abbrev pub AreChains : List Chain → Option (List FrameChain) → Type 0
AreChains chains found = MatchOption found (2 ^ 64 ≤ longest chains) (λ list. map chain_seen list ≡ chains)

abbrev pub IsFrame : Frame → Option code.Frame → Type 0
IsFrame frame found = MatchOption found (2 ^ 64 ≤ longest frame.chains) (λ given. frame_seen given ≡ frame)

-- the steps of a pair in three parts
unfoldable pub first_half : Frame → List Step
first_half frame =
    member_steps bits_step (load_members frame.chains) ++ (step.Due (load_ends frame.chains).tokens
    ∷ member_steps bits_step (group_member key_inputs frame.inputs)
    ++ step.Due (first_ends frame).tokens ∷ [])

unfoldable pub last_half : Frame → List Step
last_half frame =
    member_steps bits_step (load_members frame.chains) ++ step.Due (load_ends frame.chains).tokens
    ∷ member_steps bits_step (group_member key_inputs frame.inputs)

unfoldable pub expected_part : Frame → List Step
expected_part frame =
    member_steps levels_step (group_member key_outputs frame.outputs) ++ (step.Due (last_ends frame).tokens
    ∷ member_steps levels_step (unload_members frame.chains)
    ++ step.Due (unload_ends frame.chains).tokens ∷ [])
