-- The curves of the accessory rules, with the parameters of SEC 2 (version 1.0, sections 2.4.2 and 2.7.2): the field's prime p, the
-- equation's a and b, the base point G (uncompressed) and its order n; and the bits of p.
use Rattle.std.specs.Prelude.{ℕ}
use Rattle.curve_laws.specs.Points.{Point, at, total, x_of}

pub record Curve : Type 0 where
  pub bits : ℕ
  pub p : ℕ
  pub a : ℕ
  pub b : ℕ
  pub G : Point
  pub n : ℕ

-- SEC 2 section 2.4.2, secp160r1: p = 2^160 - 2^31 - 1, a = p - 3
unfoldable pub SECP160R1 : Curve
SECP160R1 =
    record {
      bits = 160;
      p = 0xFFFFFFFF_FFFFFFFF_FFFFFFFF_FFFFFFFF_7FFFFFFF;
      a = 0xFFFFFFFF_FFFFFFFF_FFFFFFFF_FFFFFFFF_7FFFFFFC;
      b = 0x1C97BEFC_54BD7A8B_65ACF89F_81D4D4AD_C565FA45;
      G =
          at 0x4A96B568_8EF57328_46646989_68C38BB9_13CBFC82
          0x23A62855_3168947D_59DCC912_04235137_7AC5FB32;
      n = 0x01_00000000_00000000_0001F4C8_F927AED3_CA752257;
    }

-- SEC 2 section 2.7.2, secp256r1: p = 2^224 (2^32 - 1) + 2^192 + 2^96 - 1, a = p - 3
unfoldable pub SECP256R1 : Curve
SECP256R1 =
    record {
      bits = 256;
      p = 0xFFFFFFFF_00000001_00000000_00000000_00000000_FFFFFFFF_FFFFFFFF_FFFFFFFF;
      a = 0xFFFFFFFF_00000001_00000000_00000000_00000000_FFFFFFFF_FFFFFFFF_FFFFFFFC;
      b = 0x5AC635D8_AA3A93E7_B3EBBD55_769886BC_651D06B0_CC53B0F6_3BCE3C3E_27D2604B;
      G =
          at 0x6B17D1F2_E12C4247_F8BCE6E5_63A440F2_77037D81_2DEB33A0_F4A13945_D898C296
          0x4FE342E2_FE1A7F9B_8EE7EB4A_7C0F9E16_2BCE3357_6B315ECE_CBB64068_37BF51F5;
      n = 0xFFFFFFFF_00000000_FFFFFFFF_FFFFFFFF_BCE6FAAD_A7179E84_F3B9CAC2_FC632551;
    }

-- r times G, and its x coordinate
unfoldable pub times_g : Curve → ℕ → Point
times_g c r = total c.p c.a r c.G

unfoldable pub x_times_g : Curve → ℕ → ℕ
x_times_g c r = x_of (times_g c r)
