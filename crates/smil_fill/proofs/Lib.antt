pub mod ViewParts
