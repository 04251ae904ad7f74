-- The nonces that a unit holds, when they are well formed, and what issuing and spending one make of them.
use Rattle.std.specs.Prelude.{ℕ, ◌+◌, ◌*◌, Bool, true, false, cond, not, ◌&&◌, ◌||◌, List, ◌++◌, eqb, leb, ltb, length, take, drop, replicate}
use Rattle.laws.specs.Bytes.{all_zero}
use Rattle.sizes.specs.Sizes.{nonce_size, most_nonces, earlier_room}
use Rattle.tables.specs.Rows.{rows, among, distinct}
use Rattle.nonces.specs.declared.Nonces.{Nonces}

-- "a fresh one none"
abbrev pub no_nonces : Nonces
no_nonces = record { count = 0; live = false; newest = replicate nonce_size 0; earlier = replicate earlier_room 0 }

-- the nonces held, newest first
unfoldable pub issued_nonces : Nonces → List (List ℕ)
issued_nonces n = rows nonce_size n.count (n.newest ++ n.earlier)

-- "A well-formed record holds up to 16, all distinct"; room for absent ones zero; "live without a nonce" is not well formed. (Every record of
-- the code has the room; lists that stand for one have as many bytes.)
unfoldable pub nonces_legal : Nonces → Bool
nonces_legal n =
    (eqb (length n.newest) nonce_size && eqb (length n.earlier) earlier_room)
    && (leb n.count most_nonces
    && (distinct (issued_nonces n)
    && (all_zero (drop (n.count * nonce_size) (n.newest ++ n.earlier)) && (not n.live || ltb 0 n.count))))

-- "3: lent nonce not 8 bytes"; "Refusal 3 must be given when the lent nonce equals any of the last 16 issued, live or spent"
unfoldable pub nonce_fits : Nonces → List ℕ → Bool
nonce_fits n nonce = eqb (length nonce) nonce_size && not (among nonce (issued_nonces n))

-- Read "makes that nonce live, replacing any other". It is the newest; "The seventeenth back is accepted", so that sixteen are kept
abbrev pub count_after : ℕ → ℕ
count_after count = cond (ltb count most_nonces) (count + 1) most_nonces

abbrev pub with_issued : List ℕ → Nonces → Nonces
with_issued nonce n =
    record { count = count_after n.count; live = true; newest = nonce; earlier = take earlier_room (n.newest ++ n.earlier) }

-- "Spent" is the paper's word for a nonce that can authenticate no further write: it stays, and is not live
abbrev pub spent_nonces : Nonces → Nonces
spent_nonces n = record { count = n.count; live = false; newest = n.newest; earlier = n.earlier }
