use Rattle.std.proofs.Common.{◌∙◌, ap, length, take}
use Rattle.std.specs.List.{list_any}
use Rattle.ca_lanes.specs.Plane.{lane_of}
use Rattle.ca_lanes.specs.Choice.{choices_of}
use Rattle.ca_lanes.specs.code.Allowed.{lanes_of, allowed_by, is_row_allowed}
use Rattle.ca_lanes.specs.code.Evaluated.{pin_choices}
use Rattle.ca_lanes.proofs.ScreenLemmas.{says_suspect, none_suspect, bit_from}
use Rattle.ca_lanes.proofs.planes.Planes.screen_block.Goals as goal

pub returns-clause-suspect : goal.returns-clause-suspect
returns-clause-suspect c lane on =
    says_suspect c.args.pins.now c.args.rows.now (choices_of c.args.self.now.firsts.items lane) (choices_of c.args.self.now.lasts.items lane)
    (lane_of c.args.self.now.loaded lane) (lane_of c.suspect_lanes.result lane) on
    (bit_from (lane_of c.suspect_lanes.result lane) _ _ _ _ _ c.args.rows.now (c.suspect_lanes.ensures lane)
    (ap (λ masks. lanes_of masks lane) c.deref.ensures.value ∙ c.find_masks.ensures.first lane)
    (ap (λ masks. lanes_of masks lane) c.deref-2.ensures.value ∙ c.find_masks.ensures.last lane)
    c.as_slice.ensures.same)

pub returns-clause-unloaded : goal.returns-clause-unloaded
returns-clause-unloaded c lane off =
    let pins = take (length c.args.pins.now) c.args.pins.now in
    let firsts = pin_choices (choices_of c.args.self.now.firsts.items lane) pins in
    let lasts = pin_choices (choices_of c.args.self.now.lasts.items lane) pins in
    bit_from (lane_of c.suspect_lanes.result lane) _ _ (allowed_by (lane_of c.args.self.now.loaded lane) firsts) (allowed_by (lane_of c.args.self.now.loaded lane) lasts)
    _ c.args.rows.now (c.suspect_lanes.ensures lane)
    (ap (λ masks. lanes_of masks lane) c.deref.ensures.value ∙ c.find_masks.ensures.first lane)
    (ap (λ masks. lanes_of masks lane) c.deref-2.ensures.value ∙ c.find_masks.ensures.last lane) c.as_slice.ensures.same
    ∙ ap (λ loaded. list_any (is_row_allowed (allowed_by loaded firsts) (allowed_by loaded lasts)) c.args.rows.now) off
    ∙ none_suspect firsts lasts c.args.rows.now
