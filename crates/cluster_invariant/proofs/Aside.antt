-- Changes beside what is put: it doesn't matter whether they are made before a message is put, or an entry enters, or after it.
use Rattle.std.proofs.Common.{◌≡◌, ℕ, ◌+◌, Bool, true, false, List, [], ◌∷◌, length, Option, Some, None, refl, sym, ◌∙◌, ap}
use Rattle.std.specs.Prelude.{take}
use Rattle.std.specs.List.{find, list_any}
use Rattle.std.specs.Option.{option_map}
use Rattle.subscript_keys.specs.declared.span.Span.{Span}
use Rattle.plain_orders.specs.declared.entry.Entry.{Entry}
use Rattle.plain_orders.specs.Entries.{count}
use Rattle.plain_orders.specs.Fold.{fold}
use Rattle.plain_orders.specs.Spans.{entry_spans}
use Rattle.ecp_messages.specs.declared.down.Down.{Down}
use Rattle.ecp_messages.specs.declared.down.Down.TheVariants.{Drop}
use Rattle.ecp_messages.specs.declared.front.Front.{Front}
use Rattle.block_holders.specs.declared.noted.Noted.{Noted}
use Rattle.block_holders.specs.HolderWords.{touched, is_noted_for}
use Rattle.end_words.specs.Windows.{Window, sent, with_sent, with_ack_put}
use Rattle.data_rules.specs.declared.down_frames.DownOut.{DownOut}
use Rattle.data_rules.specs.declared.rows.Conn.{Conn}
use Rattle.data_rules.specs.DataState.{DataState, SessionWindow}
use Rattle.data_rules.specs.Puts.{Sofar, becomes, frames, frame_on, tells, tells_on, puts, window_in, with_window, is_bound_to, number_of, head_of}
use Rattle.data_rules.specs.Entering.{head_before, drop_head, drops, drops_one, with_entry, spans_of, appends}

-- a change that leaves the order, the windows, the notes and the connections, and that other changes may follow or precede
pub record IsAside (g : Sofar → Sofar) : Type 0 where
  pub order : (b : Sofar) → (g b).state.order ≡ b.state.order
  pub synced : (b : Sofar) → (g b).state.synced ≡ b.state.synced
  pub server : (b : Sofar) → (g b).state.server ≡ b.state.server
  pub windows : (b : Sofar) → (g b).state.windows ≡ b.state.windows
  pub conns : (b : Sofar) → (g b).state.conns ≡ b.state.conns
  pub noted : (b : Sofar) → (g b).state.noted ≡ b.state.noted
  pub round : (b : Sofar) → (g b).state.round ≡ b.state.round
  pub frame : (f : DownOut) (b : Sofar) → g (frames f b) ≡ frames f (g b)
  pub window : (s : ℕ) (w : Window Down) (b : Sofar) → g (becomes (with_window s w) b) ≡ becomes (with_window s w) (g b)
  pub entry : (e : Entry) (spans : List Span) (b : Sofar) → g (becomes (with_entry e spans) b) ≡ becomes (with_entry e spans) (g b)

-- one such change and then another
pub aside_then : (g h : Sofar → Sofar) → IsAside g → IsAside h → IsAside (λ b. h (g b))
aside_then g h first more = record {
  order = λ b. more.order (g b) ∙ first.order b;
  synced = λ b. more.synced (g b) ∙ first.synced b;
  server = λ b. more.server (g b) ∙ first.server b;
  windows = λ b. more.windows (g b) ∙ first.windows b;
  conns = λ b. more.conns (g b) ∙ first.conns b;
  noted = λ b. more.noted (g b) ∙ first.noted b;
  round = λ b. more.round (g b) ∙ first.round b;
  frame = λ f b. ap h (first.frame f b) ∙ more.frame f (g b);
  window = λ s w b. ap h (first.window s w b) ∙ more.window s w (g b);
  entry = λ e spans b. ap h (first.entry e spans b) ∙ more.entry e spans (g b);
}

-- no change
pub aside_none : IsAside (λ b. b)
aside_none = record {
  order = λ b. refl;
  synced = λ b. refl;
  server = λ b. refl;
  windows = λ b. refl;
  conns = λ b. refl;
  noted = λ b. refl;
  round = λ b. refl;
  frame = λ f b. refl;
  window = λ s w b. refl;
  entry = λ e spans b. refl;
}

-- telling, by the windows
abbrev told : ℕ → ℕ → ℕ → Down → List SessionWindow → Sofar → Sofar
told s conn n m ws b = frames (frame_on conn n (window_in ws s).taken m) (becomes (with_window s (with_ack_put (window_in ws s))) b)

pub tells_aside : (g : Sofar → Sofar) → IsAside g → (s conn n : ℕ) (m : Down) (b : Sofar) → g (tells s conn n m b) ≡ tells s conn n m (g b)
tells_aside g a s conn n m b =
    a.frame (frame_on conn n (window_in b.state.windows s).taken m) (becomes (with_window s (with_ack_put (window_in b.state.windows s))) b)
    ∙ ap (frames (frame_on conn n (window_in b.state.windows s).taken m)) (a.window s (with_ack_put (window_in b.state.windows s)) b)
    ∙ ap (λ (ws : List SessionWindow). told s conn n m ws (g b)) (sym (a.windows b))

tells_on_aside : (g : Sofar → Sofar) → IsAside g → (s : ℕ) (o : Option ℕ) (n : ℕ) (m : Down) (b : Sofar) → g (tells_on s o n m b) ≡ tells_on s o n m (g b)
tells_on_aside g a s None n m b = refl
tells_on_aside g a s (Some conn) n m b = tells_aside g a s conn n m b

-- putting, by the connections and the windows
abbrev put_by : ℕ → Down → List Conn → List SessionWindow → Sofar → Sofar
put_by s m cs ws b =
    tells_on s (option_map number_of (find (is_bound_to s) cs)) (sent (window_in ws s) + 1) m (becomes (with_window s (with_sent (window_in ws s) m)) b)

pub puts_aside : (g : Sofar → Sofar) → IsAside g → (s : ℕ) (m : Down) (b : Sofar) → g (puts s m b) ≡ puts s m (g b)
puts_aside g a s m b =
    tells_on_aside g a s (option_map number_of (find (is_bound_to s) b.state.conns)) (sent (window_in b.state.windows s) + 1) m
    (becomes (with_window s (with_sent (window_in b.state.windows s) m)) b)
    ∙ ap (tells_on s (option_map number_of (find (is_bound_to s) b.state.conns)) (sent (window_in b.state.windows s) + 1) m)
    (a.window s (with_sent (window_in b.state.windows s) m) b)
    ∙ ap (λ (cs : List Conn). put_by s m cs b.state.windows (g b)) (sym (a.conns b))
    ∙ ap (λ (ws : List SessionWindow). put_by s m (g b).state.conns ws (g b)) (sym (a.windows b))

-- the header of the same order
pub head_same : (d e : DataState) (s : ℕ) → e.order ≡ d.order → e.synced ≡ d.synced → head_of e s ≡ head_of d s
head_same d e s order synced =
    ap (λ (n : ℕ). head e.order n) synced ∙ ap (λ (es : List Entry). head es d.synced) order
  where
    head : List Entry → ℕ → Front
    head es n = record { n = length es; w = count es s; s = count (take n es) s }

before_same : (d e : DataState) (n s : ℕ) → e.order ≡ d.order → e.synced ≡ d.synced → head_before e n s ≡ head_before d n s
before_same d e n s order synced =
    ap (λ (k : ℕ). head e.order k) synced ∙ ap (λ (es : List Entry). head es d.synced) order
  where
    head : List Entry → ℕ → Front
    head es k = record { n = n; w = count (take n es) s; s = count (take k es) s }

drop_same : (more : Bool) (d e : DataState) (n s : ℕ) → e.order ≡ d.order → e.synced ≡ d.synced → drop_head more e n s ≡ drop_head more d n s
drop_same true d e n s order synced = before_same d e n s order synced
drop_same false d e n s order synced = head_same d e s order synced

one_aside : (g : Sofar → Sofar) → IsAside g → (before : ℕ) (x : Noted) (xs : List Noted) (b : Sofar) → g (drops_one before x xs b) ≡ drops_one before x xs (g b)
one_aside g a before x xs b =
    puts_aside g a x.session (Drop (drop_head (list_any (is_noted_for x.session) xs) b.state before x.session) x.span.lo x.span.hi) b
    ∙ ap (λ (f : Front). puts x.session (Drop f x.span.lo x.span.hi) (g b))
    (sym (drop_same (list_any (is_noted_for x.session) xs) b.state (g b).state before x.session (a.order b) (a.synced b)))

drops_aside : (g : Sofar → Sofar) → IsAside g → (before : ℕ) (xs : List Noted) (b : Sofar) → g (drops before xs b) ≡ drops before xs (g b)
drops_aside g a before [] b = refl
drops_aside g a before (x ∷ xs) b =
    drops_aside g a before xs (drops_one before x xs b) ∙ ap (drops before xs) (one_aside g a before x xs b)

-- appending, by the order and the notes
abbrev append_by : Entry → List Entry → List Noted → Sofar → Sofar
append_by e es xs b = drops (length es) (touched (entry_spans (fold es) e) xs) (becomes (with_entry e (entry_spans (fold es) e)) b)

pub appends_aside : (g : Sofar → Sofar) → IsAside g → (e : Entry) (b : Sofar) → g (appends e b) ≡ appends e (g b)
appends_aside g a e b =
    drops_aside g a (length b.state.order) (touched (spans_of b.state e) b.state.noted) (becomes (with_entry e (spans_of b.state e)) b)
    ∙ ap (drops (length b.state.order) (touched (spans_of b.state e) b.state.noted)) (a.entry e (spans_of b.state e) b)
    ∙ ap (λ (es : List Entry). append_by e es b.state.noted (g b)) (sym (a.order b))
    ∙ ap (λ (xs : List Noted). append_by e (g b).state.order xs (g b)) (sym (a.noted b))
