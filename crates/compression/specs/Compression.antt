-- The hash computation of SHA-256 on one block, as FIPS 180-4 defines it. Clause numbers are the standard's, and names where it has them.
use Rattle.std.specs.Prelude.{ℕ, zero, suc, ◌+◌, List, slice_index}
use Rattle.message_schedule.specs.Schedule.{mod32, Ch, Maj, Σ0, Σ1, W}
use Rattle.compression.specs.Constants.{K}
use Rattle.compression.specs.declared.Working.{Working}

-- §6.2.2, step 3: one turn of the loop over t
unfoldable pub T₁ : ℕ → ℕ → Working → ℕ
T₁ k w v = mod32 (v.h + Σ1 v.e + Ch v.e v.f v.g + k + w)

unfoldable pub T₂ : Working → ℕ
T₂ v = mod32 (Σ0 v.a + Maj v.a v.b v.c)

unfoldable pub turn : ℕ → ℕ → Working → Working
turn k w v =
    record {
      a = mod32 (T₁ k w v + T₂ v);
      b = v.a;
      c = v.b;
      d = v.c;
      e = mod32 (v.d + T₁ k w v);
      f = v.e;
      g = v.f;
      h = v.g;
    }

-- the working variables after t turns
unfoldable pub turns : List ℕ → ℕ → Working → Working
turns M zero v = v
turns M (suc t) v = turn (slice_index K t) (W M t) (turns M t v)

-- §6.2.2, step 4: the next hash value. Its words H_0 to H_7 stand in the fields a to h
unfoldable pub added : Working → Working → Working
added v H =
    record {
      a = mod32 (v.a + H.a);
      b = mod32 (v.b + H.b);
      c = mod32 (v.c + H.c);
      d = mod32 (v.d + H.d);
      e = mod32 (v.e + H.e);
      f = mod32 (v.f + H.f);
      g = mod32 (v.g + H.g);
      h = mod32 (v.h + H.h);
    }

-- §6.2.2, steps 2 to 4
unfoldable pub compress : Working → List ℕ → Working
compress H M = added (turns M 64 H) H
