-- The order grows by items that may enter and by other entries, over small changes of a data server's step.
use Rattle.std.proofs.Common.{◌≡◌, inl, inr, List, [], ◌∷◌, ◌++◌, append_assoc, append-nil, sym, ◌∙◌, ap, subst}
use Rattle.plain_orders.specs.declared.entry.Entry.{Entry}
use Rattle.plain_runs.specs.Plain.{Server}
use Rattle.data_rules.specs.Puts.{Sofar}
use Rattle.cluster_invariant.proofs.PieceKinds.{Piece, makes}
use Rattle.cluster_invariant.proofs.PieceMay.{Coming, EntersMay}
use Rattle.cluster_invariant.proofs.Pieces.{Pieced, kept_by_pieces}
use Rattle.items_server.proofs.ItemRows.{Right, RightFrom, right_push}
use Rattle.items_server.proofs.OrderPieces.{EntryBy, OrderStep, order_piece}

-- what was entered in the step so far
pub record Grew (v : Server) (es : List Entry) (b : Sofar) : Type 0 where
  pub more : List Entry
  pub order : b.state.order ≡ es ++ more
  pub right : RightFrom v es more

pub grew_none : (v : Server) (es : List Entry) (b : Sofar) → b.state.order ≡ es → Grew v es b
grew_none v es b same = record { more = []; order = same ∙ sym (append-nil es); right = tt }

pub grew_same : (v : Server) (es : List Entry) (b c : Sofar) → c.state.order ≡ b.state.order → Grew v es b → Grew v es c
grew_same v es b c same g = record { more = g.more; order = same ∙ g.order; right = g.right }

pub grew_push : (v : Server) (es : List Entry) (b c : Sofar) (e : Entry) → c.state.order ≡ b.state.order ++ e ∷ [] → Right v b.state.order e → Grew v es b → Grew v es c
grew_push v es b c e order right g = record {
  more = g.more ++ e ∷ [];
  order = order ∙ ap (λ (xs : List Entry). xs ++ e ∷ []) g.order ∙ append_assoc es g.more (e ∷ []);
  right = right_push v es g.more e g.right (subst (λ (xs : List Entry). Right v xs e) g.order right);
}

-- Where no item comes, only Opens and Closes enter.
pub grew_pieces : (v : Server) (es : List Entry) (t : Coming) → ((e : Entry) (b : Sofar) → EntersMay t e b → ⊥) → (b c : Sofar) → Pieced t b c → Grew v es b → Grew v es c
grew_pieces v es t none b c by g = kept_by_pieces t (Grew v es) (λ q x may h. one q x (order_piece t q x may) h) b c by g
  where
    one : (q : Piece) (x : Sofar) → OrderStep t x (makes t.now q x).state.order → Grew v es x → Grew v es (makes t.now q x)
    one q x (inl same) h = grew_same v es x (makes t.now q x) same h
    one q x (inr more) h = grew_push v es x (makes t.now q x) more.0 more.1 (right more.0 more.2) h
      where
        right : (e : Entry) → EntryBy t x e → Right v x.state.order e
        right e (inl enters) = absurd (none e x enters)
        right e (inr (inl o)) = subst (λ (y : Entry). Right v x.state.order y) (sym o.1) tt
        right e (inr (inr k)) = subst (λ (y : Entry). Right v x.state.order y) (sym k.1) tt
