-- Walks: the choices that an address can follow from node to node, and the list of all live ones.
use Rattle.std.specs.Prelude.{◌≡◌, ℕ, zero, suc, ◌+◌, ◌-◌, ◌<◌, ◌≤◌, ◌⊎◌, Bool, true, false, if◌then◌else◌, ◌&&◌, ◌||◌, not, nat_le, nat_lt, ◌==◌, List, [], ◌∷◌, ◌++◌, map, filter, length, slice_get, Option, Some, None, IsTrue}
use Rattle.std.specs.List.{flat_map}
use Rattle.dn_net.specs.declared.node.Name.{Name}
use Rattle.dn_net.specs.declared.node.Block.{Block}
use Rattle.dn_net.specs.declared.node.Dest.{Dest}
use Rattle.dn_net.specs.declared.node.Entry.{Entry}
use Rattle.dn_net.specs.declared.node.NodeDecl.{NodeDecl}
use Rattle.dn_net.specs.Decode.{top, within, in_some_block}

-- a choice of a map entry and one of its destinations, by their places, or of a gap that `over` serves
pub data Choice : Type 0 where
  mapped_by : (entry dest : ℕ) → Choice
  over_gap : (lo hi : ℕ) → Choice

-- the address lies in a map block
abbrev pub in_some_entry : ℕ → List Entry → Bool
in_some_entry a [] = false
in_some_entry a (e ∷ es) = within a e.block || in_some_entry a es

-- the node neither accepts nor maps the address
abbrev pub is_in_no_block : NodeDecl → ℕ → Bool
is_in_no_block n a = not (in_some_block a n.accepts) && not (in_some_entry a n.entries)

-- a gap: the addresses from lo to hi are free, and no more beside them are
pub record IsGap (n : NodeDecl) (lo hi : ℕ) : Type 0 where
  pub order : lo ≤ hi
  pub low : hi ≤ top
  pub free : (a : ℕ) → lo ≤ a → a ≤ hi → is_in_no_block n a ≡ true
  pub below : (a : ℕ) → lo ≡ suc a → is_in_no_block n a ≡ false
  pub above : hi < top → is_in_no_block n (suc hi) ≡ false

-- the addresses that a choice leads on, and the name to which the first of them goes
abbrev pub ChoiceLeads : Option NodeDecl → Choice → Block → Name → Type 0
ChoiceLeads None c b d = ⊥
ChoiceLeads (Some n) (mapped_by i j) b d = (e : Entry) × (to : Dest) × (slice_get n.entries i ≡ Some e) × (slice_get e.dests j ≡ Some to) × (b ≡ e.block) × (d ≡ record { node = to.node; addr = to.addr })
ChoiceLeads (Some n) (over_gap lo hi) b d = (m : ℕ) × (n.over ≡ Some m) × IsGap n lo hi × (b ≡ record { lo = lo; hi = hi }) × (d ≡ record { node = m; addr = lo })

-- a name so many addresses further
abbrev pub moved_name : ℕ → Name → Name
moved_name offset x = record { node = x.node; addr = x.addr + offset }

-- the name follows the choices to another name
abbrev pub Follows : List NodeDecl → Name → List Choice → Name → Type 0
Follows net x [] y = x ≡ y
Follows net x (c ∷ cs) y = (b : Block) × (d : Name) × ChoiceLeads (slice_get net x.node) c b d × IsTrue (within x.addr b) × Follows net (moved_name (x.addr - b.lo) d) cs y

-- the choices are a live walk from the node: some address of it follows all of them
abbrev pub IsLive : List NodeDecl → ℕ → List Choice → Type 0
IsLive net start choices = (a : ℕ) × (y : Name) × (a ≤ top) × Follows net (record { node = start; addr = a }) choices y

-- what is left of a span of addresses below a block, and above it
abbrev pub below : Block → Block → List Block
below b s = if nat_lt s.lo b.lo then record { lo = s.lo; hi = if nat_lt s.hi b.lo then s.hi else b.lo - 1 } ∷ [] else []

-- what is left of a span of addresses above a block
abbrev pub above : Block → Block → List Block
above b s = if nat_lt b.hi s.hi then record { lo = if nat_lt b.hi s.lo then s.lo else b.hi + 1; hi = s.hi } ∷ [] else []

-- what is left of spans when a block is cut out
abbrev pub cut_out : Block → List Block → List Block
cut_out b spans = flat_map (λ s. below b s ++ above b s) spans

-- what is left of spans when each of some blocks is cut out
abbrev pub cut_each : List Block → List Block → List Block
cut_each [] spans = spans
cut_each (b ∷ bs) spans = cut_out b (cut_each bs spans)

-- every address
abbrev pub all_addresses : Block
all_addresses = record { lo = 0; hi = top }

-- the gaps of a node, ascending: what is left of all addresses when each block is cut out
abbrev pub gaps : NodeDecl → List Block
gaps n = cut_each (map (λ e. e.block) n.entries ++ n.accepts) (all_addresses ∷ [])

-- a choice with the addresses that it leads on, and the name to which the first of them goes
pub record Leg : Type 0 where
  pub choice : Choice
  pub block : Block
  pub to : Name

-- a leg for each destination of a block, from a place on
abbrev pub dest_legs : ℕ → ℕ → Block → List Dest → List Leg
dest_legs i j b [] = []
dest_legs i j b (d ∷ ds) = record { choice = mapped_by i j; block = b; to = record { node = d.node; addr = d.addr } } ∷ dest_legs i (suc j) b ds

-- the legs of entries, from a place on
abbrev pub entry_legs : ℕ → List Entry → List Leg
entry_legs i [] = []
entry_legs i (e ∷ es) = dest_legs i 0 e.block e.dests ++ entry_legs (suc i) es

-- a leg for each gap, to the same addresses of the node of the `over`, where there is one
abbrev pub gap_legs : Option ℕ → List Block → List Leg
gap_legs None spans = []
gap_legs (Some m) spans = map (λ b. record { choice = over_gap b.lo b.hi; block = b; to = record { node = m; addr = b.lo } }) spans

-- the item put before the first that does not come before it
abbrev pub put_in : {X : Type 0} → (X → X → Bool) → X → List X → List X
put_in before x [] = x ∷ []
put_in before x (y ∷ ys) = if before y x then y ∷ put_in before x ys else x ∷ (y ∷ ys)

-- the items in order; those of which neither comes before the other stay as they stand
abbrev pub in_order : {X : Type 0} → (X → X → Bool) → List X → List X
in_order before [] = []
in_order before (x ∷ xs) = put_in before x (in_order before xs)

-- the legs of a node, by the first address of each; those of one entry in the order of its destinations
abbrev pub legs : NodeDecl → List Leg
legs n = in_order (λ l m. nat_lt l.block.lo m.block.lo) (entry_legs 0 n.entries ++ gap_legs n.over (gaps n))

-- the legs of a node that is there
abbrev pub legs_of : Option NodeDecl → List Leg
legs_of None = []
legs_of (Some n) = legs n

-- a walk: the choices from a node, the span of its addresses that follow all of them, and the name to which the first of these comes
pub record Walk : Type 0 where
  pub start : ℕ
  pub choices : List Choice
  pub span : Block
  pub to : Name

-- the greater of two numbers
abbrev pub greater_of : ℕ → ℕ → ℕ
greater_of a b = if nat_lt a b then b else a

-- the lesser of two numbers
abbrev pub lesser_of : ℕ → ℕ → ℕ
lesser_of a b = if nat_lt b a then b else a

-- a run of addresses: those of a span, and the address to which the first of them goes
pub record Run : Type 0 where
  pub span : Block
  pub base : ℕ

-- the address to which the last one of a run goes
abbrev pub last_of_run : Run → ℕ
last_of_run r = r.base + (r.span.hi - r.span.lo)

-- some address of the run goes into the block
abbrev pub goes_into : Run → Block → Bool
goes_into r b = nat_le r.base b.hi && nat_le b.lo (last_of_run r)

-- the addresses of a run that go into a block, where they go on to: that of the first address of the block is given
abbrev pub cut_run : Run → Block → ℕ → Run
cut_run r b addr = cut (greater_of r.base b.lo) (lesser_of (last_of_run r) b.hi)
  where
    cut : ℕ → ℕ → Run
    cut lo hi = record { span = record { lo = r.span.lo + (lo - r.base); hi = r.span.lo + (hi - r.base) }; base = addr + (lo - b.lo) }

-- the addresses that follow a walk, and where the first of them comes out
abbrev pub run_of : Walk → Run
run_of w = record { span = w.span; base = w.to.addr }

-- the last address at which a walk comes out
abbrev pub last_out : Walk → ℕ
last_out w = last_of_run (run_of w)

-- some address at which the walk comes out goes on by the leg
abbrev pub meets : Walk → Leg → Bool
meets w l = goes_into (run_of w) l.block

-- the walk with one more leg, for the addresses that go on by it
abbrev pub onto : Walk → Leg → Walk
onto w l = along (cut_run (run_of w) l.block l.to.addr)
  where
    along : Run → Walk
    along r = record {
      start = w.start;
      choices = w.choices ++ l.choice ∷ [];
      span = r.span;
      to = record { node = l.to.node; addr = r.base };
    }

-- the walks that go on from a walk by one more choice
abbrev pub extensions_of : List NodeDecl → Walk → List Walk
extensions_of net w = map (onto w) (filter (meets w) (legs_of (slice_get net w.to.node)))

-- the walk of no choice from a node: each address comes to itself
abbrev pub still_walk : ℕ → Walk
still_walk n = record { start = n; choices = []; span = all_addresses; to = record { node = n; addr = 0 } }

-- the walks of no choice of nodes, of which the first has this number
abbrev pub still_walks : ℕ → List NodeDecl → List Walk
still_walks n [] = []
still_walks n (d ∷ ds) = still_walk n ∷ still_walks (suc n) ds

-- the live walks of so many choices: each of one fewer goes on
abbrev pub level : List NodeDecl → ℕ → List Walk
level net zero = still_walks 0 net
level net (suc k) = flat_map (extensions_of net) (level net k)

-- walks of one length are ordered by their starts, then by the first and the last addresses of their spans
abbrev pub starts_before : Walk → Walk → Bool
starts_before w v = nat_lt w.start v.start || ((w.start == v.start) && (nat_lt w.span.lo v.span.lo || ((w.span.lo == v.span.lo) && nat_lt w.span.hi v.span.hi)))

-- the live walks of 1 to so many choices: by length, start and span, and where these are equal by their choices
abbrev pub live_walks : List NodeDecl → ℕ → List Walk
live_walks net zero = []
live_walks net (suc k) = live_walks net k ++ in_order starts_before (level net (suc k))

-- of two lists of choices, at the first place where they differ, both choose the same entry, and the first an earlier destination of it
abbrev pub EarlierDest : Choice → Choice → Type 0
EarlierDest (mapped_by i j) (mapped_by k l) = (i ≡ k) × (j < l)
EarlierDest _ _ = ⊥

-- where two lists of choices first differ, the first has an earlier destination
abbrev pub ChooseBefore : List Choice → List Choice → Type 0
ChooseBefore [] ds = ⊥
ChooseBefore (c ∷ cs) [] = ⊥
ChooseBefore (c ∷ cs) (d ∷ ds) = (EarlierDest c d) ⊎ ((c ≡ d) × ChooseBefore cs ds)

-- the order of walks, in full: by length, start, span, choices
abbrev pub SameSpan : Walk → Walk → Type 0
SameSpan w v = (w.start ≡ v.start) × (w.span.lo ≡ v.span.lo) × (w.span.hi ≡ v.span.hi)

-- the walk comes before the other, by length, start, span and choices
abbrev pub Precedes : Walk → Walk → Type 0
Precedes w v = (length w.choices < length v.choices) ⊎ ((length w.choices ≡ length v.choices) × (IsTrue (starts_before w v) ⊎ (SameSpan w v × ChooseBefore w.choices v.choices)))
