-- Replies that leave, and an acknowledgement by itself, as pieces.
use Rattle.std.proofs.Common.{◌≡◌, ℕ, Bool, true, false, cond, not, List, [], ◌∷◌, ◌++◌, filter, Option, Some, None, refl, sym, ◌∙◌, ap, subst, append_assoc}
use Rattle.std.specs.List.{AllByRecursion}
use Rattle.ecp_messages.specs.declared.down.Down.TheVariants.{Grant, Answer}
use Rattle.end_words.specs.Windows.{owes_bare}
use Rattle.data_rules.specs.DataState.{DataState}
use Rattle.data_rules.specs.declared.rows.Reply.{Reply}
use Rattle.data_rules.specs.declared.rows.Role.{Role}
use Rattle.data_rules.specs.declared.rows.Role.TheVariants.{New, Waiting, Bound, Closing}
use Rattle.data_rules.specs.declared.rows.Says.{Says}
use Rattle.data_rules.specs.declared.rows.Says.TheVariants.{NewWelcome, EpochWelcome, ResetOf, GrantOf, AnswerOf}
use Rattle.data_rules.specs.Puts.{Sofar, becomes, head_of, conn_of, window_of}
use Rattle.data_rules.specs.Leaving.{may_leave, must_wait, leaves, all_leave, flushed, bare_to, bare_on, bared}
use Rattle.data_rules.specs.Frames.{bares_role}
use Rattle.data_rules.specs.Conns.{role_of}
use Rattle.data_rules.specs.declared.data_in.DataIn.TheVariants as data_in
use Rattle.ecp_messages.specs.declared.up.UpFrame.{UpFrame}
use Rattle.cluster_invariant.proofs.AllLists.{all_joined}
use Rattle.cluster_invariant.proofs.Aside.{IsAside, puts_aside}
use Rattle.cluster_invariant.proofs.PutLaws.{only_leaves}
use Rattle.cluster_invariant.proofs.PieceKinds.{Leaves, Bares, with_replies}
use Rattle.cluster_invariant.proofs.PieceMay.{Coming, Message}
use Rattle.cluster_invariant.proofs.Pieces.{Pieced, no_piece, one_piece, one_then, by_after}

-- these replies wait
abbrev waits_with : List Reply → Sofar → Sofar
waits_with rs b = becomes (with_replies rs) b

replies_aside : (rs : List Reply) → IsAside (waits_with rs)
replies_aside rs = record {
  order = λ b. refl;
  synced = λ b. refl;
  server = λ b. refl;
  windows = λ b. refl;
  conns = λ b. refl;
  noted = λ b. refl;
  round = λ b. refl;
  frame = λ f b. refl;
  window = λ s w b. refl;
  entry = λ e spans b. refl;
}

-- a reply that leaves makes the same, whichever others wait
leaves_aside : (rs : List Reply) (says : Says) (b : Sofar) → leaves says (waits_with rs b) ≡ waits_with rs (leaves says b)
leaves_aside rs (NewWelcome conn s) b = refl
leaves_aside rs (EpochWelcome conn s kept) b = refl
leaves_aside rs (ResetOf conn s at) b = refl
leaves_aside rs (GrantOf s ticket at) b = sym (puts_aside (waits_with rs) (replies_aside rs) s (Grant (head_of b.state s) ticket at) b)
leaves_aside rs (AnswerOf s about job number at sum) b =
    sym (puts_aside (waits_with rs) (replies_aside rs) s (Answer (head_of b.state s) about job number at sum) b)

-- the replies behind those that wait: each leaves in its turn, or waits
flush_from : (t : Coming) (n : ℕ) (before rest : List Reply) (b : Sofar) → b.state.synced ≡ n → b.state.replies ≡ before ++ rest
    → AllByRecursion (λ q. may_leave n q ≡ false) before
    → Pieced t b (all_leave (filter (may_leave n) rest) (waits_with (before ++ filter (must_wait n) rest) b))
flush_from t n before [] b synced its waiting = by_after t b _ b (ap (λ (rs : List Reply). waits_with rs b) (sym its)) (no_piece t b)
flush_from t n before (r ∷ rs) b synced its waiting =
    go (may_leave n r) refl
    (flush_from t n before rs (leaves r.says (waits_with (before ++ rs) b)))
    (flush_from t n (before ++ r ∷ []) rs b)
  where
    leaving : List Reply
    leaving = filter (may_leave n) rs

    waits : List Reply
    waits = filter (must_wait n) rs

    go : (m : Bool) → may_leave n r ≡ m
        → ((leaves r.says (waits_with (before ++ rs) b)).state.synced ≡ n → (leaves r.says (waits_with (before ++ rs) b)).state.replies ≡ before ++ rs
        → AllByRecursion (λ q. may_leave n q ≡ false) before
        → Pieced t (leaves r.says (waits_with (before ++ rs) b))
        (all_leave leaving (waits_with (before ++ waits) (leaves r.says (waits_with (before ++ rs) b)))))
        → (b.state.synced ≡ n → b.state.replies ≡ (before ++ r ∷ []) ++ rs → AllByRecursion (λ q. may_leave n q ≡ false) (before ++ r ∷ [])
        → Pieced t b (all_leave leaving (waits_with ((before ++ r ∷ []) ++ waits) b)))
        → Pieced t b (all_leave (cond m (r ∷ leaving) leaving) (waits_with (before ++ cond (not m) (r ∷ waits) waits) b))
    go true may more others =
        one_then t (Leaves before r rs) b _
        (record {
          its = its;
          synced = subst (λ (k : ℕ). may_leave k r ≡ true) (sym synced) may;
          others = subst (λ (k : ℕ). AllByRecursion (λ q. may_leave k q ≡ false) before) (sym synced) waiting;
        })
        (by_after t (leaves r.says (waits_with (before ++ rs) b)) _ _
        (ap (all_leave leaving) (leaves_aside (before ++ waits) r.says b ∙ sym (ap (waits_with (before ++ waits)) (leaves_aside (before ++ rs) r.says b))))
        (more (ap (λ (d : DataState). d.synced) (only_leaves r.says (waits_with (before ++ rs) b)).state ∙ synced)
        (ap (λ (d : DataState). d.replies) (only_leaves r.says (waits_with (before ++ rs) b)).state) waiting))
    go false stays more others =
        by_after t b _ _ (ap (λ (qs : List Reply). all_leave leaving (waits_with qs b)) (sym (append_assoc before (r ∷ []) waits)))
        (others synced (its ∙ sym (append_assoc before (r ∷ []) rs)) (all_joined (λ q. may_leave n q ≡ false) before (r ∷ []) waiting (stays, tt)))

-- Those that may leave now do.
pub flush_pieces : (t : Coming) (b : Sofar) → Pieced t b (flushed b)
flush_pieces t b = flush_from t b.state.synced [] b.state.replies b refl refl tt

pub bare_pieces : (t : Coming) (s : ℕ) (b : Sofar) → Message t s b → Pieced t b (bared s b)
bare_pieces t s b after = go (conn_of b.state s) refl
  where
    by : (conn : ℕ) → conn_of b.state s ≡ Some conn → (owed : Bool) → owes_bare (window_of b.state s) ≡ owed → Pieced t b (bare_to owed s conn b)
    by conn its true owed = one_piece t (Bares s conn) b (record { after = after; its = its; owed = owed })
    by conn its false owed = no_piece t b

    go : (o : Option ℕ) → conn_of b.state s ≡ o → Pieced t b (bare_on o s b)
    go None its = no_piece t b
    go (Some conn) its = by conn its (owes_bare (window_of b.state s)) refl

-- an acknowledgement goes out by itself only on the connection on which the frame came
pub bares_role_pieces : (t : Coming) (conn : ℕ) (up : UpFrame) → t.input ≡ data_in.Frame conn up → (r : Option Role) (b : Sofar) → role_of b.state conn ≡ r
    → Pieced t b (bares_role r b)
bares_role_pieces t conn up came None b its = no_piece t b
bares_role_pieces t conn up came (Some New) b its = no_piece t b
bares_role_pieces t conn up came (Some Waiting) b its = no_piece t b
bares_role_pieces t conn up came (Some (Bound s)) b its =
    bare_pieces t s b (record { conn = conn; up = up; on = record { came = came; bound = its } })
bares_role_pieces t conn up came (Some (Closing s)) b its = no_piece t b
