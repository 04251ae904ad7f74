pub mod RingValues
