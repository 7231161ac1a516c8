-- The Epochs of a server's orders rise.
use Rattle.std.proofs.Common.{◌≡◌, ℕ, zero, suc, ◌+◌, ◌<◌, ◌≤◌, List, [], ◌∷◌, ◌++◌, length, take, refl, subst, sym, ap, ◌∙◌, Bool, true, false, if◌then◌else◌, arith, length-append, append_assoc, ◌⊎◌, inl, inr, Some, None}
use Rattle.std.specs.Prelude.{nat_lt}
use Rattle.std.proofs.lemmas.Bool.{ltb-true}
use Rattle.std.proofs.lemmas.List.{append-nil, get_or_append_left, length-take-le, take-append-le, take_all, take_at}
use Rattle.plain_orders.specs.declared.entry.Entry.{Entry}
use Rattle.plain_orders.specs.declared.entry.Entry.TheVariants.{Epoch, Opened as OpenedEntry, Closed, Update, Commit, Rollback}
use Rattle.plain_orders.specs.declared.layout.Layout.{Layout}
use Rattle.plain_orders.specs.Entries.{epoch_after, epoch_from, last_epoch}
use Rattle.plain_orders.specs.Ordered.{MayFollow, OrderedFrom}
use Rattle.plain_runs.specs.Plain.{Server}
use Rattle.plain_runs.specs.OrderRows.{CrashMay, EnterMay, OpenedMay, SyncedMay, crashed, entered, opened_with}
use Rattle.plain_runs.specs.EndRows.{shut}
use Rattle.plain_runs.proofs.Orders.{Facet, OrdersKept, facet}
use Rattle.plain_runs.proofs.ToldItems.{before_stays, here_or_before, last_nth, nth}
use Rattle.plain_orders.specs.Sessions.{place_of_epoch}

-- an Epoch is no lower than this number
abbrev RiseAt : ℕ → Entry → Type 0
RiseAt k (Epoch number) = k ≤ number
RiseAt k (OpenedEntry session app) = Unit {0}
RiseAt k (Closed session) = Unit {0}
RiseAt k (Update session w job txn op) = Unit {0}
RiseAt k (Commit session w job txn) = Unit {0}
RiseAt k (Rollback session w job txn) = Unit {0}

-- each Epoch is no lower than the one before, the first no lower than this number
abbrev pub Rise : ℕ → List Entry → Type 0
Rise k [] = Unit {0}
Rise k (e ∷ es) = RiseAt k e × Rise (epoch_after k e) es

after_low : (k : ℕ) (e : Entry) → RiseAt k e → k ≤ epoch_after k e
after_low k (Epoch number) r = r
after_low k (OpenedEntry session app) r = omega arith
after_low k (Closed session) r = omega arith
after_low k (Update session w job txn op) r = omega arith
after_low k (Commit session w job txn) r = omega arith
after_low k (Rollback session w job txn) r = omega arith

rise_low : (k : ℕ) (es : List Entry) → Rise k es → k ≤ epoch_from k es
rise_low k [] r = omega arith
rise_low k (e ∷ es) r = omega (arith, after_low k e r.0, rise_low (epoch_after k e) es r.1)

epoch_push : (k : ℕ) (es : List Entry) (e : Entry) → epoch_from k (es ++ e ∷ []) ≡ epoch_after (epoch_from k es) e
epoch_push k [] e = refl
epoch_push k (x ∷ es) e = epoch_push (epoch_after k x) es e

rise_push : (k : ℕ) (es : List Entry) (e : Entry) → Rise k es → RiseAt (epoch_from k es) e → Rise k (es ++ e ∷ [])
rise_push k [] e r h = (h, tt)
rise_push k (x ∷ es) e r h = (r.0, rise_push (epoch_after k x) es e r.1 h)

rise_take : (k m : ℕ) (es : List Entry) → Rise k es → Rise k (take m es)
rise_take k zero es r = tt
rise_take k (suc m) [] r = tt
rise_take k (suc m) (e ∷ es) r = (r.0, rise_take (epoch_after k e) m es r.1)

take_low : (k m n : ℕ) (es : List Entry) → Rise k es → m ≤ n → epoch_from k (take m es) ≤ epoch_from k (take n es)
take_low k zero n es r low = rise_low k (take n es) (rise_take k n es r)
take_low k (suc m) zero es r low = absurd (omega arith)
take_low k (suc m) (suc n) [] r low = omega arith
take_low k (suc m) (suc n) (e ∷ es) r low = take_low (epoch_after k e) m n es r.1 (omega arith)

-- no Epoch is above the last
pub place_none : (k n i : ℕ) (es : List Entry) → Rise k es → epoch_from k es ≤ n → place_of_epoch n i es ≡ None
place_none k n i [] r low = refl
place_none k n i (Epoch number ∷ es) r low = go (nat_lt n number) refl (place_none number n (i + 1) es r.1 low)
  where
    go : (b : Bool) → nat_lt n number ≡ b → place_of_epoch n (i + 1) es ≡ None → (if b then Some i else place_of_epoch n (i + 1) es) ≡ None
    go true e h = absurd (omega (arith, ltb-true n number e, rise_low number es r.1, low))
    go false e h = h
place_none k n i (OpenedEntry session app ∷ es) r low = place_none k n (i + 1) es r.1 low
place_none k n i (Closed session ∷ es) r low = place_none k n (i + 1) es r.1 low
place_none k n i (Update session w job txn op ∷ es) r low = place_none k n (i + 1) es r.1 low
place_none k n i (Commit session w job txn ∷ es) r low = place_none k n (i + 1) es r.1 low
place_none k n i (Rollback session w job txn ∷ es) r low = place_none k n (i + 1) es r.1 low

next_rise : (before : List Entry) (e : Entry) → MayFollow before e → RiseAt (last_epoch before) e
next_rise before (Epoch number) m = omega (arith, m.is_next)
next_rise before (OpenedEntry session app) m = tt
next_rise before (Closed session) m = tt
next_rise before (Update session w job txn op) m = tt
next_rise before (Commit session w job txn) m = tt
next_rise before (Rollback session w job txn) m = tt

ordered_rise : (before es : List Entry) → Rise 0 before → OrderedFrom before es → Rise 0 (before ++ es)
ordered_rise before [] r o = subst (Rise 0) (sym (append-nil before)) r
ordered_rise before (e ∷ es) r o = subst (Rise 0) (append_assoc before (e ∷ []) es) (ordered_rise (before ++ e ∷ []) es (rise_push 0 before e r (next_rise before e o.0)) o.1)

pub record EpochsKept (f : Facet) : Type 0 where
  pub rise : (k : ℕ) → k ≤ length f.past → Rise 0 (nth f.past f.order k)
  pub chain : (j k : ℕ) → j ≤ k → k ≤ length f.past → last_epoch (nth f.past f.order j) ≤ last_epoch (nth f.past f.order k)
  pub near : last_epoch f.order ≤ last_epoch (take f.synced f.order) + 1

abbrev pub EpochSteps : Server → Server → Type 0
EpochSteps s t = EpochsKept (facet s) → EpochsKept (facet t)

current_rise : (f : Facet) → EpochsKept f → Rise 0 f.order
current_rise f k = subst (Rise 0) (last_nth f.past f.order) (k.rise (length f.past) (omega arith))

-- an entry that is no Epoch at the end
push_epochs : (s t : Server) (e : Entry) → facet t ≡ record (facet s) { order = s.order ++ e ∷ [] } → ((m : ℕ) → epoch_after m e ≡ m) → ((m : ℕ) → RiseAt m e) → s.synced ≤ length s.order → EpochSteps s t
push_epochs s t e same stays high within k = subst EpochsKept (sym same) (record {
  rise = λ j low. rise j low (here_or_before s.past new j low);
  chain = λ i j up low. omega (arith, k.chain i j up low, lasts i (omega arith) (here_or_before s.past new i (omega arith)), lasts j low (here_or_before s.past new j low));
  near = omega (arith, k.near, last, ap last_epoch (take-append-le s.synced s.order (e ∷ []) within));
})
  where
    new : List Entry
    new = s.order ++ e ∷ []

    last : last_epoch new ≡ last_epoch s.order
    last = epoch_push 0 s.order e ∙ stays (last_epoch s.order)

    rise : (j : ℕ) → j ≤ length s.past → (nth s.past new j ≡ new) ⊎ (j < length s.past) → Rise 0 (nth s.past new j)
    rise j low (inl now) = subst (Rise 0) (sym now) (rise_push 0 s.order e (current_rise (facet s) k) (high (last_epoch s.order)))
    rise j low (inr under) = subst (Rise 0) (sym (before_stays s.past s.order new j under)) (k.rise j low)

    old_last : (j : ℕ) → j ≤ length s.past → nth s.past new j ≡ new → (nth s.past s.order j ≡ s.order) ⊎ (j < length s.past) → last_epoch (nth s.past new j) ≡ last_epoch (nth s.past s.order j)
    old_last j low now (inl was) = ap last_epoch now ∙ (last ∙ sym (ap last_epoch was))
    old_last j low now (inr under) = ap last_epoch (before_stays s.past s.order new j under)

    lasts : (j : ℕ) → j ≤ length s.past → (nth s.past new j ≡ new) ⊎ (j < length s.past) → last_epoch (nth s.past new j) ≡ last_epoch (nth s.past s.order j)
    lasts j low (inl now) = old_last j low now (here_or_before s.past s.order j low)
    lasts j low (inr under) = ap last_epoch (before_stays s.past s.order new j under)

pub enter_epochs : (l : Layout) (clock : ℕ) (s : Server) (x : Entry) → EnterMay l clock s x → s.synced ≤ length s.order → EpochSteps s (entered s x)
enter_epochs l clock s (Epoch number) may within = absurd may
enter_epochs l clock s (Closed session) may within = absurd may
enter_epochs l clock s (OpenedEntry session app) may within = push_epochs s (entered s (OpenedEntry session app)) (OpenedEntry session app) refl (λ m. refl) (λ m. tt) within
enter_epochs l clock s (Update session w job txn op) may within = push_epochs s (entered s (Update session w job txn op)) (Update session w job txn op) refl (λ m. refl) (λ m. tt) within
enter_epochs l clock s (Commit session w job txn) may within = push_epochs s (entered s (Commit session w job txn)) (Commit session w job txn) refl (λ m. refl) (λ m. tt) within
enter_epochs l clock s (Rollback session w job txn) may within = push_epochs s (entered s (Rollback session w job txn)) (Rollback session w job txn) refl (λ m. refl) (λ m. tt) within

pub shut_epochs : (s : Server) (session : ℕ) → s.synced ≤ length s.order → EpochSteps s (shut s session)
shut_epochs s session within = push_epochs s (shut s session) (Closed session) refl (λ m. refl) (λ m. tt) within

pub saved_epochs : (s : Server) (n : ℕ) → SyncedMay s n → EpochSteps s (record s { synced = n })
saved_epochs s n may k = record {
  rise = k.rise;
  chain = k.chain;
  near = omega (arith, k.near, take_low 0 s.synced n s.order (current_rise (facet s) k) may.no_less);
}

pub opened_epochs : (clock round : ℕ) (s : Server) (entries : List Entry) → OpenedMay s entries → OrdersKept (facet s) → EpochSteps s (opened_with clock round s entries)
opened_epochs clock round s entries may os k = record {
  rise = λ j low. subst (Rise 0) (sym (now j low)) rises;
  chain = λ i j up low. omega (arith, ap last_epoch (now i (omega arith)), ap last_epoch (now j low));
  near = omega (arith, ap last_epoch (take_all (length entries + 1) new (omega (arith, length-append entries (last ∷ [])))));
}
  where
    last : Entry
    last = Epoch (last_epoch entries + 1)

    new : List Entry
    new = entries ++ last ∷ []

    rises : Rise 0 new
    rises = rise_push 0 entries last (ordered_rise [] entries tt may.ordered) (omega arith)

    now : (j : ℕ) → j ≤ length s.past → nth s.past new j ≡ new
    now j low = let same : j ≡ length s.past = omega (arith, low, ap length (os.fresh may.fresh).1) in ap (nth s.past new) same ∙ last_nth s.past new

pub crash_epochs : (clock round : ℕ) (s : Server) (kept : ℕ) → CrashMay s kept → EpochSteps s (crashed clock round s kept)
crash_epochs clock round s kept may k = record {
  rise = λ j low. rise j low (here_or_before past new j low);
  chain = λ i j up low. chain i j up low (here_or_before past new i (omega arith)) (here_or_before past new j low);
  near = omega (arith, top, ap last_epoch (take_at (take kept s.order) (last ∷ []) kept (length-take-le kept s.order may.within)));
}
  where
    past : List (List Entry)
    past = s.past ++ s.order ∷ []

    last : Entry
    last = Epoch (last_epoch (take kept s.order) + 1)

    new : List Entry
    new = take kept s.order ++ last ∷ []

    top : last_epoch new ≡ last_epoch (take kept s.order) + 1
    top = epoch_push 0 (take kept s.order) last

    old : (j : ℕ) → j < length past → nth past new j ≡ nth s.past s.order j
    old j under = get_or_append_left past (new ∷ []) [] j under

    rise : (j : ℕ) → j ≤ length past → (nth past new j ≡ new) ⊎ (j < length past) → Rise 0 (nth past new j)
    rise j low (inl now) = subst (Rise 0) (sym now) (rise_push 0 (take kept s.order) last (rise_take 0 kept s.order (current_rise (facet s) k)) (omega arith))
    rise j low (inr under) = subst (Rise 0) (sym (old j under)) (k.rise j (omega (arith, under, length-append s.past (s.order ∷ []))))

    reaches : last_epoch s.order ≤ last_epoch new
    reaches = omega (arith, k.near, top, take_low 0 s.synced kept s.order (current_rise (facet s) k) may.no_less)

    before : (i : ℕ) → i < length past → last_epoch (nth past new i) ≤ last_epoch s.order
    before i under = omega (arith, ap last_epoch (old i under), ap last_epoch (last_nth s.past s.order), k.chain i (length s.past) (omega (arith, under, length-append s.past (s.order ∷ []))) (omega arith))

    chain : (i j : ℕ) → i ≤ j → j ≤ length past → (nth past new i ≡ new) ⊎ (i < length past) → (nth past new j ≡ new) ⊎ (j < length past) → last_epoch (nth past new i) ≤ last_epoch (nth past new j)
    chain i j up low (inl first) (inl second) = omega (arith, ap last_epoch first, ap last_epoch second)
    chain i j up low (inr under) (inl second) = omega (arith, before i under, reaches, ap last_epoch second)
    chain i j up low x (inr under) =
        omega (arith, ap last_epoch (old i (omega (arith, up, under))), ap last_epoch (old j under), k.chain i j up (omega (arith, under, length-append s.past (s.order ∷ []))))
