-- What stands in a list of messages on their way.
use Rattle.std.proofs.Common.{◌≡◌, ℕ, ◌+◌, ◌≤◌, List, [], ◌∷◌, ◌++◌, length, refl, ap, arith}
use Rattle.link_window.specs.Link.{Frame, Numbered, Bare, numbered}

-- the bodies of the numbered ones
abbrev pub bodies : List Frame → List (List ℕ)
bodies [] = []
bodies (Numbered s a b ∷ fs) = b ∷ bodies fs
bodies (Bare a ∷ fs) = bodies fs

-- their numbers go on from n + 1, one by one
abbrev pub InRow : ℕ → List Frame → Type 0
InRow n [] = Unit {0}
InRow n (Numbered s a b ∷ fs) = (s ≡ n + 1) × InRow (n + 1) fs
InRow n (Bare a ∷ fs) = InRow n fs

-- none acknowledges more than n
abbrev pub AcksUpTo : ℕ → List Frame → Type 0
AcksUpTo n [] = Unit {0}
AcksUpTo n (Numbered s a b ∷ fs) = (a ≤ n) × AcksUpTo n fs
AcksUpTo n (Bare a ∷ fs) = (a ≤ n) × AcksUpTo n fs

pub bodies-append : (fs gs : List Frame) → bodies (fs ++ gs) ≡ bodies fs ++ bodies gs
bodies-append [] gs = refl
bodies-append (Numbered s a b ∷ fs) gs = ap (λ (bs : List (List ℕ)). b ∷ bs) (bodies-append fs gs)
bodies-append (Bare a ∷ fs) gs = bodies-append fs gs

pub InRow-append : (n : ℕ) (fs gs : List Frame) (m : ℕ) → m ≡ n + length (bodies fs) → InRow n fs → InRow m gs → InRow n (fs ++ gs)
InRow-append n [] gs m is row more = let P : ℕ → Type 0 = λ k. InRow k gs in let e : m ≡ n = omega arith in rw (← e) more
InRow-append n (Numbered s a b ∷ fs) gs m is row more = (row.0, InRow-append (n + 1) fs gs m (omega arith) row.1 more)
InRow-append n (Bare a ∷ fs) gs m is row more = InRow-append n fs gs m is row more

pub AcksUpTo-append : (n : ℕ) (fs gs : List Frame) → AcksUpTo n fs → AcksUpTo n gs → AcksUpTo n (fs ++ gs)
AcksUpTo-append n [] gs acks more = more
AcksUpTo-append n (Numbered s a b ∷ fs) gs acks more = (acks.0, AcksUpTo-append n fs gs acks.1 more)
AcksUpTo-append n (Bare a ∷ fs) gs acks more = (acks.0, AcksUpTo-append n fs gs acks.1 more)

pub AcksUpTo-more : (n m : ℕ) (fs : List Frame) → n ≤ m → AcksUpTo n fs → AcksUpTo m fs
AcksUpTo-more n m [] le acks = acks
AcksUpTo-more n m (Numbered s a b ∷ fs) le acks = let first = acks.0 in (omega arith, AcksUpTo-more n m fs le acks.1)
AcksUpTo-more n m (Bare a ∷ fs) le acks = let first = acks.0 in (omega arith, AcksUpTo-more n m fs le acks.1)

pub bodies-numbered : (n ack : ℕ) (bs : List (List ℕ)) → bodies (numbered n ack bs) ≡ bs
bodies-numbered n ack [] = refl
bodies-numbered n ack (b ∷ bs) = ap (λ (cs : List (List ℕ)). b ∷ cs) (bodies-numbered (n + 1) ack bs)

pub InRow-numbered : (n ack : ℕ) (bs : List (List ℕ)) → InRow n (numbered n ack bs)
InRow-numbered n ack [] = tt
InRow-numbered n ack (b ∷ bs) = (refl, InRow-numbered (n + 1) ack bs)

pub AcksUpTo-numbered : (n ack : ℕ) (bs : List (List ℕ)) → AcksUpTo ack (numbered n ack bs)
AcksUpTo-numbered n ack [] = tt
AcksUpTo-numbered n ack (b ∷ bs) = (omega arith, AcksUpTo-numbered (n + 1) ack bs)
