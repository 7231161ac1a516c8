use Rattle.std.proofs.Common.{◌≡◌, List, Bool, false, ap, rules, arith, subst, sym, ◌∙◌}
use Rattle.std.specs.List.{slice_index_or}
use Rattle.outer_disk.specs.Calls.{bytes_after, MayLeave}
use Rattle.outer_disk.specs.Crash.{synced_after, is_unsynced, IsPicked}
use Rattle.outer_disk.proofs.Crashes.{within_take, synced_at, leaves_synced, leaves_picked, image_is, from_place}
use Rattle.outer_disk.specs.declared.disk_call.DiskCall.{DiskCall}
use Rattle.outer_disk.proofs.Images.{leaves_held}
use Rattle.outer_disk.proofs.image.image_of.Goals as goal

pub replayed-requires : goal.replayed-requires
replayed-requires c = within_take c.synced_calls-count.result c.args.first.now c.args.calls.now c.requires.within

pub returns-then-pick-eq1-clause-allowed : goal.returns-then-pick-eq1-clause-allowed
returns-then-pick-eq1-clause-allowed c =
    let same : c.in_ok-same.same.items ≡ c.args.bytes.now = search rules in
    subst (λ b. MayLeave c.args.first.now c.args.calls.now b) (sym (same ∙ c.requires.bytes)) (leaves_held c.args.first.now c.args.calls.now c.requires.within)

-- the bytes of the last sync
is_synced : (c : goal.Then-pick-eq0) → c.in_ok-synced.synced.items ≡ synced_after c.args.first.now c.args.first.now c.args.calls.now
is_synced c =
    c.in_ok-synced.ensures ∙ synced_at c.args.first.now c.args.calls.now c.synced_calls-count.result c.synced_calls-count.ensures.none_later c.synced_calls-count.ensures.sync

pub returns-then-pick-eq0-clause-image : goal.returns-then-pick-eq0-clause-image
returns-then-pick-eq0-clause-image c = record { none = λ h. is_synced c; one = λ h. absurd (omega arith); more = λ h. absurd (omega arith) }

pub returns-then-pick-eq0-clause-allowed : goal.returns-then-pick-eq0-clause-allowed
returns-then-pick-eq0-clause-allowed c =
    subst (λ b. MayLeave c.args.first.now c.args.calls.now b) (sym (is_synced c)) (leaves_synced c.args.first.now c.args.calls.now)

-- the image by the rule of the picks
is_picked : (c : goal.After-drop-synced-2) → IsPicked c.args.pick (λ place. is_unsynced false c.args.calls.now place) (bytes_after c.args.first.now c.args.calls.now)
    (synced_after c.args.first.now c.args.first.now c.args.calls.now) c.in_ok-image.image.items
is_picked c =
    image_is c.args.pick c.args.first.now c.args.bytes.now c.deref.result.now c.in_ok-image.image.items c.args.calls.now c.synced_calls-count.result
    (λ place. slice_index_or c.deref-2.result.now place false) (omega arith) c.requires.bytes c.synced_calls-count.ensures.none_later c.synced_calls-count.ensures.sync
    (c.deref.ensures.value ∙ c.in_ok-synced.ensures)
    (λ p lt. ap (λ (ms : List Bool). slice_index_or ms p false) c.deref-2.ensures.value ∙ c.in_ok-marks.ensures.each p lt ∙ ap (λ (cs : List DiskCall). is_unsynced false cs p) (from_place c.args.calls.now c.synced_calls-count.result))
    c.in_ok-image.ensures

pub returns-clause-image : goal.returns-clause-image
returns-clause-image c = record { none = λ h. absurd (omega arith); one = λ h. absurd (omega arith); more = λ h. is_picked c }

pub returns-clause-allowed : goal.returns-clause-allowed
returns-clause-allowed c =
    leaves_picked c.args.first.now (synced_after c.args.first.now c.args.first.now c.args.calls.now) c.in_ok-image.image.items c.args.calls.now c.args.pick
    c.requires.within (is_picked c)
