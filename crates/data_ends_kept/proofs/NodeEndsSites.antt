-- The data end of a node, where an application server steps: what was taken upwards stays, and Hellos that are alone on their connections.
use Rattle.std.proofs.Common.{◌≡◌, ◌&&◌, ◌==◌, ℕ, Bool, true, false, List, [], length, Option, Some, None, option_map, refl, sym, ◌∙◌, ap, subst, arith, if◌then◌else◌}
use Rattle.std.specs.Prelude.{IfSome, IsSomeAnd, take, drop}
use Rattle.std.specs.List.{list_any}
use Rattle.std.proofs.lemmas.Bool.{and_parts, eqb-true}
use Rattle.std.proofs.lemmas.List.{append-nil, take-append-le}
use Rattle.plain_runs.specs.Plain.{put}
use Rattle.ecp_messages.specs.declared.down.Down.{Down}
use Rattle.ecp_messages.specs.declared.up.Up.{Up}
use Rattle.ecp_messages.specs.declared.up.UpFrame.{UpFrame}
use Rattle.app_rules.specs.declared.app_outs.AppOuts.{AppOuts}
use Rattle.app_rules.specs.AppState.{AppEnd, Session}
use Rattle.app_rules.specs.Looks.{Shown}
use Rattle.cluster_runs.specs.Connections.{is_index, leaves_if, ups_to, with_ups}
use Rattle.cluster_runs.specs.Goes.{app_site, app_end, at_told, with_state}
use Rattle.cluster_runs.specs.Lanes.{given_since, is_told_new, sent_before, told_by, with_app_step}
use Rattle.cluster_runs.specs.Machine.{Site, End}
use Rattle.cluster_runs.specs.Sent.{Connection, Lane, Place, ups_taken}
use Rattle.cluster_invariant.specs.Ends.{HelloAlone}
use Rattle.cluster_invariant.specs.Link.{LaneCounts}
use Rattle.cluster_invariant.proofs.Small.{at_places}
use Rattle.cluster_steps.proofs.AppSites.{site_beside, site_ends}
use Rattle.data_ends_kept.proofs.NodeEndsBeside.{SameCalls}
use Rattle.data_ends_kept.proofs.NodeEndsMoves.{AloneStill, alone_by}

-- what was taken of a lane stays taken
step_taken : (x : Lane) (b : Bool) (m : Option Down) (n sent : ℕ) (q : Option Session) (frames : List UpFrame) → LaneCounts x → (b ≡ true → x.began ≡ None) → ups_taken (with_app_step b m n sent q frames x) ≡ ups_taken x
step_taken x b m n sent None frames counts fresh = refl
step_taken x true m n sent (Some t) frames counts fresh = ap (λ (k : ℕ). take k (given_since 0 t.window)) none ∙ sym (ap (λ (k : ℕ). take k x.up) none)
  where
    none : x.up_taken ≡ 0
    none = omega (arith, counts.up_taken, ap (λ (ms : List Up). length ms) (counts.no_up (fresh refl)))
step_taken x false m n sent (Some t) frames counts fresh = take-append-le x.up_taken x.up (given_since sent t.window) counts.up_taken

-- the lane that the end is told of begins, if it does, where nothing was
abbrev pub BeginsFresh : Bool → Option Place → Site → Type 0
BeginsFresh b o x = b ≡ true → IfSome o (λ p. (x.lane_at p.session p.order).began ≡ None)

site_taken : (x z : Site) (o : Option Place) (b : Bool) (m : Option Down) (n sent : ℕ) (q : Option Session) (frames : List UpFrame) → z.lane_at ≡ x.lane_at → z.past ≡ x.past → ((s k : ℕ) → LaneCounts (x.lane_at s k)) → BeginsFresh b o x
    → (session : ℕ) → ups_taken ((at_told o (with_app_step b m n sent q frames) z).lane_at session (at_told o (with_app_step b m n sent q frames) z).past) ≡ ups_taken (x.lane_at session x.past)
site_taken x z None b m n sent q frames lanes past counts fresh session = ap (λ (k : ℕ). ups_taken (z.lane_at session k)) past ∙ ap (λ (f : ℕ → ℕ → Lane). ups_taken (f session x.past)) lanes
site_taken x z (Some p) b m n sent q frames lanes past counts fresh session = go (session == p.session && z.past == p.order) refl
  where
    same : ups_taken (z.lane_at session z.past) ≡ ups_taken (x.lane_at session x.past)
    same = ap (λ (k : ℕ). ups_taken (z.lane_at session k)) past ∙ ap (λ (f : ℕ → ℕ → Lane). ups_taken (f session x.past)) lanes

    here : Lane
    here = z.lane_at session z.past

    go : (t : Bool) → (session == p.session && z.past == p.order) ≡ t → ups_taken (if t then with_app_step b m n sent q frames here else here) ≡ ups_taken (x.lane_at session x.past)
    go false is = same
    go true is = step_taken here b m n sent q frames (subst (λ (f : ℕ → ℕ → Lane). LaneCounts (f session z.past)) (sym lanes) (counts session z.past)) began ∙ same
      where
        parts : (session == p.session ≡ true) × (z.past == p.order ≡ true)
        parts = and_parts (session == p.session) (z.past == p.order) is

        began : b ≡ true → here.began ≡ None
        began new =
            subst (λ (f : ℕ → ℕ → Lane). (f session z.past).began ≡ None) (sym lanes)
            (subst (λ (s : ℕ). (x.lane_at s z.past).began ≡ None) (sym (eqb-true session p.session parts.0)) (subst (λ (k : ℕ). (x.lane_at p.session k).began ≡ None) (sym (eqb-true z.past p.order parts.1)) (fresh new)))

-- connections

told_conns : (b : Bool) (m : Option Down) (n : ℕ) (e : End) → (told_by b m n e).connection_at ≡ e.connection_at
told_conns true m n e = refl
told_conns false m n e = refl

with_none : (cut : Bool) (c k : Connection) → AloneStill c k → AloneStill c (leaves_if cut (with_ups [] k))
with_none true c k s = (s.0, record { hello = s.1.hello; one = ap (drop 1) (append-nil k.ups) ∙ s.1.one; taken = s.1.taken; silent = s.1.silent; its = s.1.its })
with_none false c k s = (s.0, record { hello = s.1.hello; one = ap (drop 1) (append-nil k.ups) ∙ s.1.one; taken = s.1.taken; silent = s.1.silent; its = s.1.its })

carried : (b cut : Bool) (fs : List UpFrame) (o : Option Connection) (c : Connection) → (b ≡ true → fs ≡ []) → IsSomeAnd o (AloneStill c)
    → IsSomeAnd (if b then option_map (λ (k : Connection). leaves_if cut (with_ups fs k)) o else o) (AloneStill c)
carried b cut fs None c none h = absurd h
carried true cut fs (Some k) c none h = subst (λ (us : List UpFrame). AloneStill c (leaves_if cut (with_ups us k))) (sym (none refl)) (with_none cut c k h)
carried false cut fs (Some k) c none h = h

-- The end after a step, where nothing is put on the connection of such a Hello.
pub end_alone : (d : ℕ) (outs : AppOuts) (old new : AppEnd) (shown : Shown) (m : Option Down) (e : End) (dial : ℕ) (c : Connection) → (dial ≡ new.dial → ups_to d outs.frames ≡ []) → IsSomeAnd (e.connection_at dial) (AloneStill c)
    → IsSomeAnd ((app_end d outs old new shown m e).connection_at dial) (AloneStill c)
end_alone d outs old new shown m e dial c none h =
    carried (dial == new.dial) (list_any (is_index d) outs.cuts) (ups_to d outs.frames) ((told_by (is_told_new old.session new.session) m old.dial (with_state new shown e)).connection_at dial) c (λ is. none (eqb-true dial new.dial is))
    (subst (λ (f : ℕ → Option Connection). IsSomeAnd (f dial) (AloneStill c)) (sym (told_conns (is_told_new old.session new.session) m old.dial (with_state new shown e))) h)

-- The site.
pub site_calls : (app d : ℕ) (outs : AppOuts) (old new : AppEnd) (m : Option Down) (e : End) (x : Site) → ((s k : ℕ) → LaneCounts (x.lane_at s k)) → BeginsFresh (is_told_new old.session new.session) e.told x
    → ((dial : ℕ) (c : Connection) → (x.end_at app).connection_at dial ≡ Some c → HelloAlone c → IsSomeAnd (e.connection_at dial) (AloneStill c)) → SameCalls x (app_site app d outs old new m e x)
site_calls app d outs old new m e x counts fresh own = record {
  taken = site_taken x (record x { end_at = put x.end_at app e }) e.told (is_told_new old.session new.session) m old.dial (sent_before old.session) new.session (ups_to d outs.frames) refl refl counts fresh;
  alone = alone_by x y (site_beside app d outs old new m e x).connections (site_beside app d outs old new m e x).past all;
}
  where
    y : Site
    y = app_site app d outs old new m e x

    still : (o : Option Connection) (c : Connection) → o ≡ Some c → HelloAlone c → IsSomeAnd o (AloneStill c)
    still o c there alone = subst (λ (q : Option Connection). IsSomeAnd q (AloneStill c)) (sym there) (refl, alone)

    all : (a dial : ℕ) (c : Connection) → (x.end_at a).connection_at dial ≡ Some c → HelloAlone c → IsSomeAnd ((y.end_at a).connection_at dial) (AloneStill c)
    all a dial c there alone =
        subst (λ (f : ℕ → End). IsSomeAnd ((f a).connection_at dial) (AloneStill c)) (sym (site_ends app d outs old new m e x))
        (at_places (λ k z. (x.end_at k).connection_at dial ≡ Some c → IsSomeAnd (z.connection_at dial) (AloneStill c)) x.end_at app e (λ is. own dial c is alone) (λ k other is. still ((x.end_at k).connection_at dial) c is alone) a there)
