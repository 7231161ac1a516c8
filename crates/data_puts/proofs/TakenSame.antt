-- Putting messages and acknowledging leaves how many messages a window counts.
use Rattle.std.proofs.Common.{◌≡◌, ◌≢◌, ◌⊎◌, inl, inr, ◌+◌, ℕ, List, [], ◌∷◌, length, Option, Some, None, refl, sym, ◌∙◌, ap, subst}
use Rattle.plain_orders.specs.declared.entry.Entry.{Entry}
use Rattle.ecp_messages.specs.declared.down.Down.{Down}
use Rattle.ecp_messages.specs.declared.down.Down.TheVariants as down
use Rattle.end_words.specs.Windows.{Window, resent, sent, with_ack_put, with_sent}
use Rattle.block_holders.specs.declared.noted.Noted.{Noted}
use Rattle.block_holders.specs.HolderWords.{touched}
use Rattle.data_rules.specs.DataState.{SessionWindow}
use Rattle.data_rules.specs.declared.rows.Says.{Says}
use Rattle.data_rules.specs.declared.rows.Says.TheVariants.{NewWelcome, EpochWelcome, ResetOf, GrantOf, AnswerOf}
use Rattle.data_rules.specs.Callers.{goes_on, old_welcome, sends_again}
use Rattle.data_rules.specs.Entering.{appends, drops, drops_one, spans_of, with_entry}
use Rattle.data_rules.specs.Leaving.{epoch_welcome, leaves, new_welcome}
use Rattle.data_rules.specs.Puts.{Sofar, becomes, conn_of, head_of, puts, set_window, tells, tells_on, window_in, window_of, with_window}
use Rattle.link_kept.proofs.WindowLists.{set_elsewhere, set_here}
use Rattle.link_kept.proofs.WindowsGo.{same_or}

-- each window counts as many
abbrev pub SameTaken : Sofar → Sofar → Type 0
SameTaken b c = (s : ℕ) → (window_in c.state.windows s).taken ≡ (window_in b.state.windows s).taken

pub set_taken : (ws : List SessionWindow) (s : ℕ) (w : Window Down) → w.taken ≡ (window_in ws s).taken → (q : ℕ) → (window_in (set_window ws s w) q).taken ≡ (window_in ws q).taken
set_taken ws s w same q = go (same_or q s)
  where
    go : (q ≡ s) ⊎ (q ≢ s) → (window_in (set_window ws s w) q).taken ≡ (window_in ws q).taken
    go (inl is) = subst (λ (n : ℕ). (window_in (set_window ws s w) n).taken ≡ (window_in ws n).taken) (sym is) (ap (λ (v : Window Down). v.taken) (set_here ws s w) ∙ same)
    go (inr differs) = ap (λ (v : Window Down). v.taken) (set_elsewhere ws s q w differs)

taken_tells : (s conn n : ℕ) (m : Down) (b : Sofar) → SameTaken b (tells s conn n m b)
taken_tells s conn n m b = set_taken b.state.windows s (with_ack_put (window_in b.state.windows s)) refl

pub taken_puts : (s : ℕ) (m : Down) (b : Sofar) → SameTaken b (puts s m b)
taken_puts s m b = go (conn_of b.state s) (sent (window_of b.state s) + 1)
  where
    put : SameTaken b (becomes (λ d. with_window s (with_sent (window_of d s) m) d) b)
    put = set_taken b.state.windows s (with_sent (window_in b.state.windows s) m) refl

    go : (o : Option ℕ) (n : ℕ) → SameTaken b (tells_on s o n m (becomes (λ d. with_window s (with_sent (window_of d s) m) d) b))
    go None n q = put q
    go (Some conn) n q = taken_tells s conn n m (becomes (λ d. with_window s (with_sent (window_of d s) m) d) b) q ∙ put q

taken_drops : (before : ℕ) (xs : List Noted) (b : Sofar) → SameTaken b (drops before xs b)
taken_drops before [] b q = refl
taken_drops before (x ∷ xs) b q = taken_drops before xs (drops_one before x xs b) q ∙ taken_puts x.session _ b q

pub taken_appends : (e : Entry) (b : Sofar) → SameTaken b (appends e b)
taken_appends e b q = taken_drops (length b.state.order) (touched (spans_of b.state e) b.state.noted) (becomes (with_entry e (spans_of b.state e)) b) q

taken_again : (s conn : ℕ) (ms : List (ℕ × Down)) (b : Sofar) → SameTaken b (sends_again s conn ms b)
taken_again s conn [] b q = refl
taken_again s conn (m ∷ ms) b q = taken_again s conn ms (tells s conn m.0 m.1 b) q ∙ taken_tells s conn m.0 m.1 b q

pub taken_goes_on : (s conn taken : ℕ) (b : Sofar) → SameTaken b (goes_on s conn taken b)
taken_goes_on s conn taken b q =
    taken_again s conn (resent (window_of b.state s) taken) (tells s conn 0 (old_welcome b.state s) b) q ∙ taken_tells s conn 0 (old_welcome b.state s) b q

pub taken_leaves : (says : Says) (b : Sofar) → SameTaken b (leaves says b)
taken_leaves (NewWelcome conn s) b q = taken_tells s conn 0 (new_welcome b.state s) b q
taken_leaves (EpochWelcome conn s kept) b q = taken_tells s conn 0 (epoch_welcome b.state s kept) b q
taken_leaves (ResetOf conn s at) b q = refl
taken_leaves (GrantOf s ticket at) b q = taken_puts s (down.Grant (head_of b.state s) ticket at) b q
taken_leaves (AnswerOf s about job number at sum) b q = taken_puts s (down.Answer (head_of b.state s) about job number at sum) b q

pub taken_bare : (s conn : ℕ) (b : Sofar) → SameTaken b (tells s conn 0 down.Bare b)
taken_bare s conn b q = taken_tells s conn 0 down.Bare b q
