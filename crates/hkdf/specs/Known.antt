-- Known answers: one public case each of SHA-512, HMAC and HKDF. These are definitions: they assume nothing.
use Rattle.std.specs.Prelude.{ℕ, List, [], ◌∷◌}

-- SHA-512 of the letters abc, as the examples of FIPS 180-4 have it
abbrev pub abc_hash : List ℕ
abc_hash = 221 ∷ 175 ∷ 53 ∷ 161 ∷ 147 ∷ 97 ∷ 122 ∷ 186 ∷ 204 ∷ 65 ∷ 115 ∷ 73 ∷ 174 ∷ 32 ∷ 65 ∷ 49 ∷ 18 ∷ 230 ∷ 250 ∷ 78 ∷ 137 ∷ 169 ∷ 126 ∷ 162 ∷ 10 ∷ 158 ∷ 238 ∷ 230 ∷ 75 ∷ 85 ∷ 211 ∷ 154 ∷ 33 ∷ 146 ∷ 153 ∷ 42 ∷ 39 ∷ 79 ∷ 193 ∷ 168 ∷ 54 ∷ 186 ∷ 60 ∷ 35 ∷ 163 ∷ 254 ∷ 235 ∷ 189 ∷ 69 ∷ 77 ∷ 68 ∷ 35 ∷ 100 ∷ 60 ∷ 232 ∷ 14 ∷ 42 ∷ 154 ∷ 201 ∷ 79 ∷ 165 ∷ 76 ∷ 164 ∷ 159 ∷ []

-- HMAC of RFC 4231, case 2: the key Jefe, and "what do ya want for nothing?"
abbrev pub jefe_mac : List ℕ
jefe_mac = 22 ∷ 75 ∷ 122 ∷ 123 ∷ 252 ∷ 248 ∷ 25 ∷ 226 ∷ 227 ∷ 149 ∷ 251 ∷ 231 ∷ 59 ∷ 86 ∷ 224 ∷ 163 ∷ 135 ∷ 189 ∷ 100 ∷ 34 ∷ 46 ∷ 131 ∷ 31 ∷ 214 ∷ 16 ∷ 39 ∷ 12 ∷ 215 ∷ 234 ∷ 37 ∷ 5 ∷ 84 ∷ 151 ∷ 88 ∷ 191 ∷ 117 ∷ 192 ∷ 90 ∷ 153 ∷ 74 ∷ 109 ∷ 3 ∷ 79 ∷ 101 ∷ 248 ∷ 240 ∷ 230 ∷ 253 ∷ 202 ∷ 234 ∷ 177 ∷ 163 ∷ 77 ∷ 74 ∷ 107 ∷ 75 ∷ 99 ∷ 110 ∷ 7 ∷ 10 ∷ 56 ∷ 188 ∷ 231 ∷ 55 ∷ []

-- 32 bytes by HKDF from the same two, as salt and key, with the info COMMITKEY; computed with Python's package cryptography
abbrev pub jefe_key : List ℕ
jefe_key = 153 ∷ 44 ∷ 34 ∷ 61 ∷ 77 ∷ 98 ∷ 241 ∷ 226 ∷ 246 ∷ 163 ∷ 30 ∷ 118 ∷ 33 ∷ 38 ∷ 165 ∷ 76 ∷ 126 ∷ 247 ∷ 55 ∷ 221 ∷ 243 ∷ 47 ∷ 56 ∷ 9 ∷ 154 ∷ 125 ∷ 9 ∷ 16 ∷ 84 ∷ 211 ∷ 155 ∷ 161 ∷ []
