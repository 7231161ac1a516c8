-- What a fresh message makes of the requests of an end.
use Rattle.std.proofs.Common.{◌≡◌, ◌+◌, ◌-◌, ℕ, Bool, true, false, ◌||◌, List, [], ◌∷◌, ◌++◌, filter, map, refl, sym, ◌∙◌, ap, subst, arith, ℤ}
use Rattle.std.specs.List.{AllByRecursion, list_all, list_any}
use Rattle.std.proofs.lemmas.Bool.{eq-eqb}
use Rattle.std.proofs.lemmas.List.{append-nil, append_assoc}
use Rattle.plain_orders.specs.declared.layout.Times.{Times}
use Rattle.link_states.specs.declared.app_link.AppLink.{AppLink}
use Rattle.ecp_messages.specs.declared.about.About.{About}
use Rattle.ecp_messages.specs.declared.about.About.TheVariants.{Counted, NotWhole, Range, Committed, RolledBack, Synced}
use Rattle.ecp_messages.specs.declared.down.Down.{Down}
use Rattle.ecp_messages.specs.declared.down.Down.TheVariants.{Welcome, Reset, Block, Drop, Ack, Grant, Answer, Normal, Bare}
use Rattle.ecp_messages.specs.declared.up.Up.{Up}
use Rattle.app_rules.specs.declared.session_parts.Asked.{Asked}
use Rattle.app_rules.specs.declared.session_parts.Fetching.{Fetching}
use Rattle.app_rules.specs.declared.session_parts.Syncing.{Syncing}
use Rattle.app_rules.specs.AppState.{Session}
use Rattle.app_rules.specs.Delivering.{ask_of, ask_put, fetch_of, is_ask_unput, is_sync_unput, sync_of, with_answer}
use Rattle.cluster_steps.proofs.FrameEnds.{Delivered}
use Rattle.cluster_invariant.specs.Asks.{grants_ticket, is_ask}
use Rattle.cluster_invariant.specs.Words.{is_normal_down}
use Rattle.cluster_invariant.proofs.AllLists.{all_joined}
use Rattle.asks_change.proofs.QuietLocks.{is_of_lock}
use Rattle.asks_moves.proofs.EndChanges.{all_put, grant_taken, unput_all}
use Rattle.asks_moves.proofs.EndPuts.{AsksAre, any_behind, down_taken, quiet_put}

-- messages that are put again of no lock

fetches_quiet : (fs : List Fetching) → AllByRecursion (λ m. is_of_lock m ≡ false) (map fetch_of fs)
fetches_quiet [] = tt
fetches_quiet (f ∷ fs) = (refl, fetches_quiet fs)

syncs_quiet : (ss : List Syncing) → AllByRecursion (λ m. is_of_lock m ≡ false) (map sync_of ss)
syncs_quiet [] = tt
syncs_quiet (s ∷ ss) = (refl, syncs_quiet ss)

answer_asks : (about : About) (number at : ℕ) (sum : ℤ) (s : Session) → (with_answer about number at sum s).asks ≡ s.asks
answer_asks Counted number at sum s = refl
answer_asks NotWhole number at sum s = refl
answer_asks Range number at sum s = refl
answer_asks Committed number at sum s = refl
answer_asks RolledBack number at sum s = refl
answer_asks Synced number at sum s = refl

-- a message that puts nothing and leaves the requests
quiet_taken : (ups : List Up) (taken : List Down) (n : ℕ) (old new : List Asked) (put : List Up) (w : Down) → new ≡ old → put ≡ [] → AsksAre ups taken n old
    → AsksAre (ups ++ put) (taken ++ w ∷ []) n new
quiet_taken ups taken n old new put w same none h =
    subst (λ (xs : List Asked). AsksAre (ups ++ put) (taken ++ w ∷ []) n xs) (sym same)
    (subst (λ (ms : List Up). AsksAre ms (taken ++ w ∷ []) n old) (sym (ap (λ (ms : List Up). ups ++ ms) none ∙ append-nil ups)) (down_taken ups taken n old (w ∷ []) h))

-- What a fresh message makes of the requests.
pub fresh_are : (w : Down) (s : Session) (link : AppLink) (times : Times) (now : ℕ) (after : Session) (settled : AppLink) (put ups : List Up) (taken : List Down) (n : ℕ)
    → Delivered w s link times now after settled put → (is_normal_down w ≡ true → (list_any is_ask ups ≡ false) × (list_all is_ask_unput s.asks ≡ true))
    → AsksAre ups taken n s.asks → AsksAre (ups ++ put) (taken ++ w ∷ []) n after.asks
fresh_are (Welcome session epoch kept front came) s link times now after settled put ups taken n is normal h = absurd is
fresh_are (Reset session at) s link times now after settled put ups taken n is normal h = absurd is
fresh_are (Block front block) s link times now after settled put ups taken n is normal h =
    quiet_taken ups taken n s.asks after.asks put (Block front block) (ap (λ (z : Session). z.asks) is.2) is.4 h
fresh_are (Drop front lo hi) s link times now after settled put ups taken n is normal h =
    quiet_taken ups taken n s.asks after.asks put (Drop front lo hi) (ap (λ (z : Session). z.asks) is.0) is.2 h
fresh_are (Ack front) s link times now after settled put ups taken n is normal h =
    quiet_taken ups taken n s.asks after.asks put (Ack front) (ap (λ (z : Session). z.asks) is.0) is.2 h
fresh_are (Grant front ticket at) s link times now after settled put ups taken n is normal h =
    subst (λ (xs : List Asked). AsksAre (ups ++ put) (taken ++ Grant front ticket at ∷ []) n xs) (sym (ap (λ (z : Session). z.asks) is.0))
    (grant_taken (ups ++ put) (taken ++ Grant front ticket at ∷ []) n ticket at s.asks
    (any_behind (grants_ticket ticket) taken (Grant front ticket at ∷ []) (ap (λ (b : Bool). b || false) (eq-eqb ticket ticket refl)))
    (quiet_taken ups taken n s.asks s.asks put (Grant front ticket at) refl is.2 h))
fresh_are (Answer front about job number at sum) s link times now after settled put ups taken n is normal h =
    quiet_taken ups taken n s.asks after.asks put (Answer front about job number at sum) (ap (λ (z : Session). z.asks) is.0 ∙ answer_asks about number at sum s) is.2 h
fresh_are (Normal front) s link times now after settled put ups taken n is normal h =
    subst (λ (xs : List Asked). AsksAre (ups ++ put) (taken ++ Normal front ∷ []) n xs) (sym (ap (λ (z : Session). z.asks) is.0))
    (subst (λ (ms : List Up). AsksAre (ups ++ ms) (taken ++ Normal front ∷ []) n (map ask_put s.asks)) (sym put_is)
    (subst (λ (ms : List Up). AsksAre ms (taken ++ Normal front ∷ []) n (map ask_put s.asks)) (append_assoc ups (map ask_of s.asks) others)
    (quiet_put (ups ++ map ask_of s.asks) (taken ++ Normal front ∷ []) n n (map ask_put s.asks) others (omega arith)
    (all_joined (λ m. is_of_lock m ≡ false) (map fetch_of s.again) (map sync_of (filter is_sync_unput s.syncs)) (fetches_quiet s.again) (syncs_quiet (filter is_sync_unput s.syncs)))
    (all_put ups (taken ++ Normal front ∷ []) n s.asks (normal refl).0 (down_taken ups taken n s.asks (Normal front ∷ []) h)))))
  where
    others : List Up
    others = map fetch_of s.again ++ map sync_of (filter is_sync_unput s.syncs)

    put_is : put ≡ map ask_of s.asks ++ others
    put_is =
        is.2 ∙ append_assoc (map ask_of (filter is_ask_unput s.asks)) (map fetch_of s.again) (map sync_of (filter is_sync_unput s.syncs))
        ∙ ap (λ (xs : List Asked). map ask_of xs ++ others) (unput_all s.asks (normal refl).1)
fresh_are Bare s link times now after settled put ups taken n is normal h = absurd is
